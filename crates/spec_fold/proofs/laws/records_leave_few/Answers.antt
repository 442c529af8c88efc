use Rattle.spec_fold.proofs.Ordered.{records_leave_few}
use Rattle.spec_fold.proofs.laws.records_leave_few.Goals as goal

pub returns : goal.returns
returns c = records_leave_few
