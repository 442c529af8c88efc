use Rattle.spec_model.proofs.Spellings.{replies_are_found}
use Rattle.spec_model.proofs.spelling_laws.replies_are_found.Goals as goal

pub returns : goal.returns
returns c = replies_are_found
