use Rattle.spec_volrows.proofs.CellOpen.{cells_open}
use Rattle.spec_volrows.proofs.laws.cells_stay_open.Goals as goal

pub returns : goal.returns
returns c = cells_open
