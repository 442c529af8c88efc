use Rattle.law_stamp_origins.proofs.Walk.{are_brought}
use Rattle.law_stamp_origins.proofs.laws.stamps_are_brought.Goals as goal

pub returns : goal.returns
returns c = are_brought
