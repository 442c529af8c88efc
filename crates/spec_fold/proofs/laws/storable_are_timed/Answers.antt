use Rattle.spec_fold.proofs.Storing.{storable_timed}
use Rattle.spec_fold.proofs.laws.storable_are_timed.Goals as goal

pub returns : goal.returns
returns c = storable_timed
