use Rattle.law_latest.proofs.Order.{changes_later}
use Rattle.law_latest.proofs.laws.changes_are_later.Goals as goal

pub returns : goal.returns
returns c = changes_later
