use Rattle.law_legal.proofs.ServerSeatsAll.{run_seated}
use Rattle.law_legal.proofs.laws.kept_were_run.Goals as goal

pub returns : goal.returns
returns c = run_seated
