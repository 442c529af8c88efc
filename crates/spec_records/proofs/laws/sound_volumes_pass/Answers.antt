use Rattle.spec_records.proofs.Tested.{passes}
use Rattle.spec_records.proofs.laws.sound_volumes_pass.Goals as goal

pub returns : goal.returns
returns c = passes
