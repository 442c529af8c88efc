use Rattle.law_replies.proofs.Walk.{replies_decided}
use Rattle.law_replies.proofs.laws.replies_are_decided.Goals as goal

pub returns : goal.returns
returns c = replies_decided
