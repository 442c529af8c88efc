use Rattle.law_transactions.proofs.NumbersWalk.{are_kept}
use Rattle.law_transactions.proofs.laws.numbers_are_kept.Goals as goal

pub returns : goal.returns
returns c = are_kept
