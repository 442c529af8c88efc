use Rattle.law_legal.proofs.OwedByServer.{run_handled}
use Rattle.law_legal.proofs.laws.replies_follow_drops.Goals as goal

pub returns : goal.returns
returns c = run_handled
