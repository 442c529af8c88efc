-- What the sink didn't take at once was written behind what it took.
use Rattle.afs_outside.proofs.Puts.{puts_rest}
use Rattle.afs_outside.proofs.outside.put_bytes.Goals as goal

pub returns : goal.returns
returns g c = puts_rest c.in_ok-n.n _ _ _ _ _ _ _ _ _ c.in_ok-n.ensures.bytes c.in_ok-n.ensures.cause.quiet c.split_at.ensures.back c.put_rest.ensures
