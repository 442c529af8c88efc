use Rattle.spec_volrows.proofs.FileServed.{files_served}
use Rattle.spec_volrows.proofs.laws.files_are_served_or_closed.Goals as goal

pub returns : goal.returns
returns c = files_served
