use Rattle.spec_model.proofs.Spellings.{calls_are_found}
use Rattle.spec_model.proofs.spelling_laws.calls_are_found.Goals as goal

pub returns : goal.returns
returns c = calls_are_found
