use Rattle.std.proofs.Common.{◌≡◌, ◌≤◌, ◌+◌, []}
use Rattle.std.specs.Vec.{vec_capacity}
use Rattle.std.specs.Vec.Iter.{into_iter_items, into_iter_len}
use Rattle.afs_cell.specs.FirstSeats.{AreFirstSeats}
use Rattle.afs_cell.proofs.seating.servers_at_first.Given as goal

abbrev pub invariant-loop-lent : goal.invariant-loop-lent
invariant-loop-lent g l = record {
  first : AreFirstSeats g.D.Disk.seen g.D.Disk.may_leave g.D.Disk.faults g.D.Disk.limit l.script 1 l.fn.disks.items l.seats.items (into_iter_items l.disks);
  seats_room : l.script.servers ≤ vec_capacity l.seats;
  none_back : l.back.items ≡ [];
  back_room : l.script.servers + 1 ≤ vec_capacity l.back;
}

abbrev pub decreases-loop-lent : goal.decreases-loop-lent
decreases-loop-lent g l = into_iter_len l.disks
