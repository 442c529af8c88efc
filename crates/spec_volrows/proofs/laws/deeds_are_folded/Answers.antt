use Rattle.spec_volrows.proofs.VolKeeping.{deeds_are_folded}
use Rattle.spec_volrows.proofs.laws.deeds_are_folded.Goals as goal

pub returns : goal.returns
returns c = deeds_are_folded
