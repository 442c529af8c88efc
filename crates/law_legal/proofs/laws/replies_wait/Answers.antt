use Rattle.law_legal.proofs.OwedInRuns.{run_waits}
use Rattle.law_legal.proofs.laws.replies_wait.Goals as goal

pub returns : goal.returns
returns c = run_waits
