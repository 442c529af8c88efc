use Rattle.law_legal.proofs.DatabaseCalls.{loc_ordered}
use Rattle.law_legal.proofs.laws.loc_changes_keep_order.Goals as goal

pub returns : goal.returns
returns c = loc_ordered
