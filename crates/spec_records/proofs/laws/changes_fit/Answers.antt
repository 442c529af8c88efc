use Rattle.spec_records.proofs.Fitting.{change_fits}
use Rattle.spec_records.proofs.laws.changes_fit.Goals as goal

pub returns : goal.returns
returns c = change_fits
