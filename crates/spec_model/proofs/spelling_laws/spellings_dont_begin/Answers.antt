use Rattle.spec_model.proofs.Spellings.{no_beginning}
use Rattle.spec_model.proofs.spelling_laws.spellings_dont_begin.Goals as goal

pub returns : goal.returns
returns c = no_beginning
