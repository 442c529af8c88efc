use Rattle.law_legal.proofs.ServerTellsTruth.{run_true}
use Rattle.law_legal.proofs.laws.replies_are_true.Goals as goal

pub returns : goal.returns
returns c = run_true
