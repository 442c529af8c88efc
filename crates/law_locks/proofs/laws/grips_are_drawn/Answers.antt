use Rattle.law_locks.proofs.Walk.{grips_are_drawn}
use Rattle.law_locks.proofs.laws.grips_are_drawn.Goals as goal

pub returns : goal.returns
returns c = grips_are_drawn
