use Rattle.spec_records.proofs.Tested.{passed}
use Rattle.spec_records.proofs.laws.passing_volumes_are_sound.Goals as goal

pub returns : goal.returns
returns c = passed
