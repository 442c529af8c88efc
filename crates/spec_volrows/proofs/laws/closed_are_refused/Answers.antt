use Rattle.spec_volrows.proofs.FileClosed.{closed_refused}
use Rattle.spec_volrows.proofs.laws.closed_are_refused.Goals as goal

pub returns : goal.returns
returns c = closed_refused
