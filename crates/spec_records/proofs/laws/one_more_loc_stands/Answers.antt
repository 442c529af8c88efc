use Rattle.spec_records.proofs.LocGrows.{loc_one_more}
use Rattle.spec_records.proofs.laws.one_more_loc_stands.Goals as goal

pub returns : goal.returns
returns c = loc_one_more
