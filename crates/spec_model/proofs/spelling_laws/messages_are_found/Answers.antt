use Rattle.spec_model.proofs.Spellings.{found_in}
use Rattle.spec_model.proofs.spelling_laws.messages_are_found.Goals as goal

pub returns : goal.returns
returns c served bytes fits m e = found_in served bytes m fits e
