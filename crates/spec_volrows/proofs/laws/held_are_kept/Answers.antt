use Rattle.spec_volrows.proofs.VolWaiting.{held_are_kept}
use Rattle.spec_volrows.proofs.laws.held_are_kept.Goals as goal

pub returns : goal.returns
returns c = held_are_kept
