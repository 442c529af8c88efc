use Rattle.spec_volrows.proofs.VolTurns.{others_leave_files}
use Rattle.spec_volrows.proofs.laws.others_leave_files.Goals as goal

pub returns : goal.returns
returns c = others_leave_files
