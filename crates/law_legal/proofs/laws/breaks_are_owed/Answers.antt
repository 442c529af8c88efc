use Rattle.law_legal.proofs.OwedByServer.{run_owed}
use Rattle.law_legal.proofs.laws.breaks_are_owed.Goals as goal

pub returns : goal.returns
returns c = run_owed
