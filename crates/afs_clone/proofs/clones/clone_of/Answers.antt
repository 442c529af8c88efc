use Rattle.std.proofs.Common.{refl}
use Rattle.afs_clone.proofs.clones.clone_of.Goals as goal

pub returns-clause-clone : goal.returns-clause-clone
returns-clause-clone c = rw (c.in_ok-copy.ensures.head, c.in_ok-copy.ensures.vnodes, c.clone_head.ensures, c.head.ensures.value, c.in_ok-name.ensures) refl
