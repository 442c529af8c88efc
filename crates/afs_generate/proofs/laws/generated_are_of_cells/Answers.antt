use Rattle.afs_generate.proofs.Cells.{of_cell}
use Rattle.afs_generate.proofs.laws.generated_are_of_cells.Goals as goal

pub returns : goal.returns
returns c = of_cell
