use Rattle.law_legal.proofs.OwedInRuns.{run_breaks}
use Rattle.law_legal.proofs.laws.breaks_are_good.Goals as goal

pub returns : goal.returns
returns c = run_breaks
