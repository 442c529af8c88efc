use Rattle.law_places.proofs.Walk.{lines_stand_well}
use Rattle.law_places.proofs.laws.lines_stand_well.Goals as goal

pub returns : goal.returns
returns c = lines_stand_well
