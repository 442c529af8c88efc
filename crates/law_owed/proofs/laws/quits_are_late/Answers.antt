use Rattle.law_owed.proofs.Walk.{quits_late}
use Rattle.law_owed.proofs.laws.quits_are_late.Goals as goal

pub returns : goal.returns
returns c = quits_late
