use Rattle.law_legal.proofs.ActCallsInRuns.{run_asked}
use Rattle.law_legal.proofs.laws.calls_are_asked.Goals as goal

pub returns : goal.returns
returns c = run_asked
