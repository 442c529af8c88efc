use Rattle.afs_acts.proofs.Numbers.{even_is}
use Rattle.afs_acts.proofs.walks.is_even.Goals as goal

pub returns : goal.returns
returns c = even_is c.args.vnode
