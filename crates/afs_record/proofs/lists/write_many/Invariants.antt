use Rattle.std.proofs.Common.{◌≡◌, ◌++◌, take, drop}
use Rattle.std.specs.List.{flat_map, AllByRecursion}
use Rattle.afs_record.proofs.lists.write_many.Given as goal

abbrev pub invariant-loop-item : goal.invariant-loop-item
invariant-loop-item g l = record {
  written : l.w ≡ l.fn.w ++ flat_map g.F.Form.form.spelled (take l.item-index l.items);
  fit : AllByRecursion g.F.Form.form.Fits (drop l.item-index l.items);
}
