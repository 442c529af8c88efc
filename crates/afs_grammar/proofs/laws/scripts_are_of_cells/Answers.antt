use Rattle.afs_grammar.proofs.CellScripts.{scripts_are_of_cells}
use Rattle.afs_grammar.proofs.laws.scripts_are_of_cells.Goals as goal

pub returns : goal.returns
returns c = scripts_are_of_cells
