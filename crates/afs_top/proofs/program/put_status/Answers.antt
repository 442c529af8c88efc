use Rattle.afs_outside.proofs.Puts.{puts_passed, puts_fail}
use Rattle.afs_top.proofs.program.put_status.Goals as goal

pub returns-in_err-print : goal.returns-in_err-print
returns-in_err-print g c = puts_fail _ _ _ _ _ _ _ c.from_residual.ensures.0 c.in_err-print.ensures

pub returns : goal.returns
returns g c = puts_passed _ _ _ _ _ _ _ _ _ c.in_ok-print.ensures c.pass_on.ensures.puts
