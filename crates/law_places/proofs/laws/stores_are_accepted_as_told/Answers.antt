use Rattle.law_places.proofs.Walk.{accepted_as_told}
use Rattle.law_places.proofs.laws.stores_are_accepted_as_told.Goals as goal

pub returns : goal.returns
returns c = accepted_as_told
