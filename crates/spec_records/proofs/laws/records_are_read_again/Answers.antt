use Rattle.spec_records.proofs.Spelled.{record_read}
use Rattle.spec_records.proofs.laws.records_are_read_again.Goals as goal

pub returns : goal.returns
returns c = record_read
