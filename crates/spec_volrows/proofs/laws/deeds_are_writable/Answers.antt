use Rattle.spec_volrows.proofs.VolKeeping.{deeds_are_writable}
use Rattle.spec_volrows.proofs.laws.deeds_are_writable.Goals as goal

pub returns : goal.returns
returns c = deeds_are_writable
