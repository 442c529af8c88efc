use Rattle.spec_ideal.proofs.Images.{imaged_again}
use Rattle.spec_ideal.proofs.soundness_laws.values_are_imaged_again.Goals as goal

pub returns : goal.returns
returns c = imaged_again
