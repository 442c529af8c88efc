use Rattle.spec_records.proofs.Spelled.{record_spelled}
use Rattle.spec_records.proofs.laws.read_records_are_spelled.Goals as goal

pub returns : goal.returns
returns c = record_spelled
