use Rattle.spec_model.proofs.Spellings.{refusals_are_found}
use Rattle.spec_model.proofs.spelling_laws.refusals_are_found.Goals as goal

pub returns : goal.returns
returns c = refusals_are_found
