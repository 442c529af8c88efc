use Rattle.std.proofs.Common.{◌≡◌, ◌≤◌, ◌+◌, ◌++◌, length}
use Rattle.std.specs.Vec.{vec_capacity}
use Rattle.std.specs.Vec.Iter.{into_iter_items}
use Rattle.afs_cell.proofs.disks.give_rest.Given as goal

abbrev pub invariant-loop-lent : goal.invariant-loop-lent
invariant-loop-lent g l = record {
  items : l.back.items ++ into_iter_items l.lent-iterator ≡ l.fn.back.items ++ into_iter_items l.fn.disks;
  room : vec_capacity l.fn.back ≤ vec_capacity l.back;
  free : length l.back.items + length (into_iter_items l.lent-iterator) ≤ vec_capacity l.back;
}
