use Rattle.spec_records.proofs.LocGrows.{loc_start_kept}
use Rattle.spec_records.proofs.laws.loc_starts_are_kept.Goals as goal

pub returns : goal.returns
returns c = loc_start_kept
