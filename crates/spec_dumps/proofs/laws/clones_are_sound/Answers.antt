use Rattle.spec_dumps.proofs.Restoring.{clones_sound}
use Rattle.spec_dumps.proofs.laws.clones_are_sound.Goals as goal

pub returns : goal.returns
returns c = clones_sound
