use Rattle.spec_ideal.proofs.Laid.{new_is_sound}
use Rattle.spec_ideal.proofs.soundness_laws.new_volumes_are_sound.Goals as goal

pub returns : goal.returns
returns c = new_is_sound
