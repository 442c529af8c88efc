use Rattle.law_legal.proofs.DatabaseRunsOnce.{runs_once}
use Rattle.law_legal.proofs.laws.loc_calls_run_once.Goals as goal

pub returns : goal.returns
returns c = runs_once
