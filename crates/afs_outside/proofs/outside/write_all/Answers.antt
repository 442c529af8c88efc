-- All was written before the sink was asked to pass it on.
use Rattle.afs_outside.proofs.Puts.{front_kept}
use Rattle.afs_outside.proofs.outside.write_all.Goals as goal

pub returns-in_err-flush-clause-err : goal.returns-in_err-flush-clause-err
returns-in_err-flush-clause-err g c = front_kept _ _ _ _ _ c.in_ok-put_bytes.ensures.whole c.flush.ensures.bytes
