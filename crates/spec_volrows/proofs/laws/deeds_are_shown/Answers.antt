use Rattle.spec_volrows.proofs.VolTurns.{deeds_are_shown}
use Rattle.spec_volrows.proofs.laws.deeds_are_shown.Goals as goal

pub returns : goal.returns
returns c = deeds_are_shown
