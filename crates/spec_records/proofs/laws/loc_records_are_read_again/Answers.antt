use Rattle.spec_records.proofs.LocSpelled.{loc_record_read}
use Rattle.spec_records.proofs.laws.loc_records_are_read_again.Goals as goal

pub returns : goal.returns
returns c = loc_record_read
