use Rattle.law_stamps.proofs.Walk.{are_drawn}
use Rattle.law_stamps.proofs.laws.locks_are_drawn.Goals as goal

pub returns : goal.returns
returns c = are_drawn
