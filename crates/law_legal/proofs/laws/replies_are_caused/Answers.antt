use Rattle.law_legal.proofs.ClientReplyCaused.{run_caused}
use Rattle.law_legal.proofs.laws.replies_are_caused.Goals as goal

pub returns : goal.returns
returns c = run_caused
