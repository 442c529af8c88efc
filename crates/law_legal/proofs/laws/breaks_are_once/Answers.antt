use Rattle.law_legal.proofs.OwedOnceInRuns.{run_singly}
use Rattle.law_legal.proofs.laws.breaks_are_once.Goals as goal

pub returns : goal.returns
returns c = run_singly
