use Rattle.law_legal.proofs.ReadsAreGood.{run_trusted}
use Rattle.law_legal.proofs.laws.trusted_is_good.Goals as goal

pub returns : goal.returns
returns c = run_trusted
