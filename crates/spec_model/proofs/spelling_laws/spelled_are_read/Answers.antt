use Rattle.spec_model.proofs.Spellings.{message_again}
use Rattle.spec_model.proofs.spelling_laws.spelled_are_read.Goals as goal

pub returns : goal.returns
returns c = message_again
