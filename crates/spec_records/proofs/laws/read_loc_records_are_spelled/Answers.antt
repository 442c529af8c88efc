use Rattle.spec_records.proofs.LocSpelled.{loc_record_spelled}
use Rattle.spec_records.proofs.laws.read_loc_records_are_spelled.Goals as goal

pub returns : goal.returns
returns c = loc_record_spelled
