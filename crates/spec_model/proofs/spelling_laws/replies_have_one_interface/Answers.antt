use Rattle.spec_model.proofs.CellMade.{replies_have_one_interface}
use Rattle.spec_model.proofs.spelling_laws.replies_have_one_interface.Goals as goal

pub returns : goal.returns
returns c = replies_have_one_interface
