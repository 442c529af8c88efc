use Rattle.law_legal.proofs.ServerHearsInRuns.{run_answered}
use Rattle.law_legal.proofs.laws.replies_were_run.Goals as goal

pub returns : goal.returns
returns c = run_answered
