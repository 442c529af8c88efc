use Rattle.spec_ideal.proofs.Images.{read_again}
use Rattle.spec_ideal.proofs.soundness_laws.sound_are_read_again.Goals as goal

pub returns : goal.returns
returns c = read_again
