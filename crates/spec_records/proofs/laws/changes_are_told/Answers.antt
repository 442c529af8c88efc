use Rattle.spec_records.proofs.Effects.{changes_told}
use Rattle.spec_records.proofs.laws.changes_are_told.Goals as goal

pub returns : goal.returns
returns c = changes_told
