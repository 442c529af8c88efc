use Rattle.spec_model.proofs.CellMade.{calls_have_one_interface}
use Rattle.spec_model.proofs.spelling_laws.calls_have_one_interface.Goals as goal

pub returns : goal.returns
returns c = calls_have_one_interface
