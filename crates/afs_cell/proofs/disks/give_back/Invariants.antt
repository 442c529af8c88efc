use Rattle.std.proofs.Common.{◌≡◌, ◌≤◌, ◌+◌, ◌++◌, length}
use Rattle.std.specs.Vec.{vec_capacity}
use Rattle.std.specs.Vec.Iter.{into_iter_items, into_iter_len}
use Rattle.afs_cell.specs.FirstSeats.{AreKeptSeats}
use Rattle.afs_cell.specs.Lends.{lent_from}
use Rattle.afs_cell.proofs.disks.give_back.Given as goal

abbrev pub invariant-loop-seat : goal.invariant-loop-seat
invariant-loop-seat g l = record {
  items : l.back.items ++ lent_from (l.node + 1) (into_iter_items l.seats) ≡ l.fn.back.items ++ lent_from 1 l.fn.seats.items;
  free : length l.back.items + length (into_iter_items l.seats) ≤ vec_capacity l.back;
  room : vec_capacity l.fn.back ≤ vec_capacity l.back;
  count : l.node + length (into_iter_items l.seats) ≡ length l.fn.seats.items;
  kept : AreKeptSeats g.D.Disk.seen g.D.Disk.may_leave g.D.Disk.limit (into_iter_items l.seats) → AreKeptSeats g.D.Disk.seen g.D.Disk.may_leave g.D.Disk.limit l.fn.seats.items;
}

abbrev pub decreases-loop-seat : goal.decreases-loop-seat
decreases-loop-seat g l = into_iter_len l.seats
