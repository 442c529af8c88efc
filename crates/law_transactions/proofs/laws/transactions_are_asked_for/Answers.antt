use Rattle.law_transactions.proofs.BegunWalk.{are_asked_for}
use Rattle.law_transactions.proofs.laws.transactions_are_asked_for.Goals as goal

pub returns : goal.returns
returns c = are_asked_for
