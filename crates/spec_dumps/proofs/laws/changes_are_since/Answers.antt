use Rattle.spec_dumps.proofs.Since.{changes_since}
use Rattle.spec_dumps.proofs.laws.changes_are_since.Goals as goal

pub returns : goal.returns
returns c = changes_since
