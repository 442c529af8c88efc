use Rattle.afs_outside.proofs.Puts.{puts_then, puts_stop}
use Rattle.afs_text.proofs.pieces.Tuple2Print.print.Goals as goal

pub returns-in_err-print : goal.returns-in_err-print
returns-in_err-print g c = puts_stop _ _ _ _ _ _ _ _ c.from_residual.ensures.0 c.in_err-print.ensures

pub returns : goal.returns
returns g c = puts_then _ _ _ _ _ _ _ _ _ _ c.in_ok-print.ensures c.print-2.ensures
