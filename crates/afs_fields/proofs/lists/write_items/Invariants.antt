use Rattle.std.proofs.Common.{◌≡◌, ◌++◌, take}
use Rattle.std.specs.List.{flat_map, AllByRecursion}
use Rattle.afs_fields.proofs.lists.write_items.Given as goal

abbrev pub invariant-loop-item : goal.invariant-loop-item
invariant-loop-item g l = record {
  written : l.w ≡ l.fn.w ++ flat_map g.T.Item.item (take l.item-index l.items);
  fits : AllByRecursion g.T.Item.InRange (take l.item-index l.items);
}
