use Rattle.spec_records.proofs.Lengths.{change_long}
use Rattle.spec_records.proofs.laws.length_has_no_time.Goals as goal

pub returns : goal.returns
returns c = change_long
