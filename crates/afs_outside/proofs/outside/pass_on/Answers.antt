use Rattle.afs_outside.proofs.Puts.{puts_kept}
use Rattle.afs_outside.proofs.outside.pass_on.Goals as goal

pub returns-clause-puts : goal.returns-clause-puts
returns-clause-puts g c = puts_kept _ _ _ _ _ c.flush.ensures.bytes c.flush.ensures.cause
