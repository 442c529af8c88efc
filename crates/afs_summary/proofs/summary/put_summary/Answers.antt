use Rattle.afs_outside.proofs.Puts.{puts_fail, puts_passed}
use Rattle.afs_summary.proofs.summary.put_summary.Goals as goal

pub returns-in_err-print-clause-puts : goal.returns-in_err-print-clause-puts
returns-in_err-print-clause-puts g c = puts_fail _ _ _ _ _ _ _ c.from_residual.ensures.0 c.in_err-print.ensures

pub returns-clause-puts : goal.returns-clause-puts
returns-clause-puts g c = puts_passed _ _ _ _ _ _ _ _ _ c.in_ok-print.ensures c.pass_on.ensures.puts
