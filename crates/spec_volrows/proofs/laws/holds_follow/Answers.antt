use Rattle.spec_volrows.proofs.VolHolds.{holds_follow}
use Rattle.spec_volrows.proofs.laws.holds_follow.Goals as goal

pub returns : goal.returns
returns c = holds_follow
