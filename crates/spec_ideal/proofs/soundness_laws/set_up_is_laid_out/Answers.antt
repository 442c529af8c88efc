use Rattle.spec_ideal.proofs.Laid.{laid_out}
use Rattle.spec_ideal.proofs.soundness_laws.set_up_is_laid_out.Goals as goal

pub returns : goal.returns
returns c = laid_out
