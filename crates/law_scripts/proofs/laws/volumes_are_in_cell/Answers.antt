use Rattle.law_scripts.proofs.Scripts.{volumes_in_cell}
use Rattle.law_scripts.proofs.laws.volumes_are_in_cell.Goals as goal

pub returns : goal.returns
returns c = volumes_in_cell
