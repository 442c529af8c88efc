use Rattle.law_legal.proofs.RunMessages.{run_own}
use Rattle.law_legal.proofs.laws.messages_are_own.Goals as goal

pub returns : goal.returns
returns c = run_own
