use Rattle.spec_volrows.proofs.FileServed.{file_steps}
use Rattle.spec_volrows.proofs.laws.file_steps_are_served_or_close.Goals as goal

pub returns : goal.returns
returns c = file_steps
