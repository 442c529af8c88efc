use Rattle.law_legal.proofs.ServerHearsInRuns.{run_unheard}
use Rattle.law_legal.proofs.laws.calls_run_once.Goals as goal

pub returns : goal.returns
returns c = run_unheard
