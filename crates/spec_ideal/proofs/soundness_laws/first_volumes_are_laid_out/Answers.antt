use Rattle.spec_ideal.proofs.Laid.{first_volumes}
use Rattle.spec_ideal.proofs.soundness_laws.first_volumes_are_laid_out.Goals as goal

pub returns : goal.returns
returns c = first_volumes
