use Rattle.law_legal.proofs.OwedByServer.{run_promised}
use Rattle.law_legal.proofs.laws.grants_are_kept.Goals as goal

pub returns : goal.returns
returns c = run_promised
