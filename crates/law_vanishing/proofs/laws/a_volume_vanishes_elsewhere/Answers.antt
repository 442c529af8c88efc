use Rattle.law_vanishing.proofs.Deleting.{deleted_elsewhere}
use Rattle.law_vanishing.proofs.Vanished.{vanish_elsewhere}
use Rattle.law_vanishing.proofs.laws.a_volume_vanishes_elsewhere.Goals as goal

pub returns : goal.returns
returns c = vanish_elsewhere deleted_elsewhere
