use Rattle.std.proofs.Common.{◌≡◌, ◌++◌}
use Rattle.std.specs.List.{AllByRecursion}
use Rattle.std.specs.Vec.Iter.{into_iter_items}
use Rattle.spec_ideal.specs.VnodeImage.{FitsImage}
use Rattle.spec_records.specs.Durable.{by_number}
use Rattle.afs_readying.proofs.readying.store_of.Given as goal

abbrev pub invariant-loop-vnode : goal.invariant-loop-vnode
invariant-loop-vnode l = record {
  table : l.store.table ++ by_number (into_iter_items l.vnode-iterator) ≡ by_number l.fn.vnodes;
  fits : AllByRecursion FitsImage (into_iter_items l.vnode-iterator);
}
