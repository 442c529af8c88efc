use Rattle.law_settled.proofs.SettleWalk.{settles_follow}
use Rattle.law_settled.proofs.laws.settles_follow_drops.Goals as goal

pub returns : goal.returns
returns c = settles_follow
