use Rattle.std.proofs.Common.{◌≡◌, ◌≤◌, ◌+◌, length, vec_capacity}
use Rattle.std.specs.Vec.Iter.{into_iter_items, into_iter_len}
use Rattle.afs_cell.specs.FirstSeats.{AreKeptSeats}
use Rattle.afs_cell.specs.Readable.{AreReadable}
use Rattle.afs_cell.proofs.SeatsRead.{Completes}
use Rattle.afs_cell.proofs.reading.left_of.Given as goal

abbrev pub invariant-loop-seat : goal.invariant-loop-seat
invariant-loop-seat g l = record {
  all : Completes g.D.Disk.seen g.D.Disk.faults g.D.Disk.limit l.fn.seats.items l.node (into_iter_items l.seats) l.left.items;
  ready : AreReadable g.D.Disk.limit (l.node + 1) (into_iter_items l.seats);
  kept : AreKeptSeats g.D.Disk.seen g.D.Disk.may_leave g.D.Disk.limit (into_iter_items l.seats) → AreKeptSeats g.D.Disk.seen g.D.Disk.may_leave g.D.Disk.limit l.fn.seats.items;
  room : length l.left.items + length (into_iter_items l.seats) ≤ vec_capacity l.left;
  count : l.node + length (into_iter_items l.seats) ≡ length l.fn.seats.items;
}

abbrev pub decreases-loop-seat : goal.decreases-loop-seat
decreases-loop-seat g l = into_iter_len l.seats
