use Rattle.law_changed.proofs.Walk.{changes_made}
use Rattle.law_changed.proofs.laws.changes_are_operations.Goals as goal

pub returns : goal.returns
returns c = changes_made
