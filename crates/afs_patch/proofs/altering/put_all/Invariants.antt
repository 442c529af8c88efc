use Rattle.std.proofs.Common.{◌≡◌}
use Rattle.std.specs.List.{AllByRecursion}
use Rattle.std.specs.Vec.Iter.{into_iter_items}
use Rattle.spec_ideal.specs.VnodeImage.{FitsImage}
use Rattle.afs_vnode.specs.Stores.{AreVnodes}
use Rattle.afs_volume.specs.Taking.{put_but}
use Rattle.afs_patch.proofs.altering.put_all.Given as goal

abbrev pub invariant-loop-vnode : goal.invariant-loop-vnode
invariant-loop-vnode l = record {
  table : put_but l.removed (into_iter_items l.vnode-iterator) l.vnodes.table ≡ put_but l.removed l.fn.changed l.fn.vnodes.table;
  fits : AllByRecursion FitsImage (into_iter_items l.vnode-iterator);
  vnodes : AreVnodes l.vnodes.table;
}
