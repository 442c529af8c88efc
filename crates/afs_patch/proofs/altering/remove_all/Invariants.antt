use Rattle.std.proofs.Common.{◌≡◌, drop}
use Rattle.afs_vnode.specs.Stores.{AreVnodes}
use Rattle.afs_volume.specs.Taking.{without_all}
use Rattle.afs_patch.proofs.altering.remove_all.Given as goal

abbrev pub invariant-loop-number : goal.invariant-loop-number
invariant-loop-number l = record {
  table : without_all (drop l.number-index l.numbers) l.vnodes.table ≡ without_all l.numbers l.fn.vnodes.table;
  vnodes : AreVnodes l.vnodes.table;
}
