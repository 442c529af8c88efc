use Rattle.law_legal.proofs.ServerRoom.{roomless}
use Rattle.law_legal.proofs.laws.roomless_are_refused.Goals as goal

pub returns : goal.returns
returns c = roomless
