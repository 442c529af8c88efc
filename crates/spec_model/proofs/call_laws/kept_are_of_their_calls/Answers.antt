use Rattle.spec_model.proofs.Calls.{kept_of_call}
use Rattle.spec_model.proofs.call_laws.kept_are_of_their_calls.Goals as goal

pub returns : goal.returns
returns c = kept_of_call
