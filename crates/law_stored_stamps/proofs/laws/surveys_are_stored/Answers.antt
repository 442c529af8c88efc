use Rattle.law_stored_stamps.proofs.Asked.{surveys_stored}
use Rattle.law_stored_stamps.proofs.laws.surveys_are_stored.Goals as goal

pub returns : goal.returns
returns c = surveys_stored
