use Rattle.spec_model.proofs.CellMade.{replies_are_of_their_calls}
use Rattle.spec_model.proofs.spelling_laws.replies_are_of_their_calls.Goals as goal

pub returns : goal.returns
returns c = replies_are_of_their_calls
