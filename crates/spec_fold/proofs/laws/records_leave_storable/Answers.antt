use Rattle.spec_fold.proofs.Storing.{records_leave}
use Rattle.spec_fold.proofs.laws.records_leave_storable.Goals as goal

pub returns : goal.returns
returns c = records_leave c.clones_are_sound.ensures
