use Rattle.std.proofs.Common.{◌≡◌, take}
use Rattle.afs_vnode.proofs.copying.copy_vnodes.Given as goal

abbrev pub invariant-loop-x : goal.invariant-loop-x
invariant-loop-x l = l.copies.items ≡ take l.x-index l.vnodes
