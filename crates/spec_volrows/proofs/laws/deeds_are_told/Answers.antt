use Rattle.spec_volrows.proofs.VolKeeping.{deeds_are_told}
use Rattle.spec_volrows.proofs.laws.deeds_are_told.Goals as goal

pub returns : goal.returns
returns c = deeds_are_told
