use Rattle.law_vanishing.proofs.Deleting.{deleted_elsewhere}
use Rattle.law_vanishing.proofs.laws.a_volume_is_deleted_elsewhere.Goals as goal

pub returns : goal.returns
returns c = deleted_elsewhere
