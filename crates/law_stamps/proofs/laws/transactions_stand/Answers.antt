use Rattle.law_stamps.proofs.Walk.{have_transactions}
use Rattle.law_stamps.proofs.laws.transactions_stand.Goals as goal

pub returns : goal.returns
returns c = have_transactions
