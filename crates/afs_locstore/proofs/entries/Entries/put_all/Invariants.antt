use Rattle.std.proofs.Common.{◌≡◌, length}
use Rattle.std.specs.Vec.Iter.{into_iter_items}
use Rattle.spec_records.specs.LocDurable.{entries_set}
use Rattle.afs_locstore.specs.Listings.{are_placed, CanBeAllPut, HasRoomOf}
use Rattle.afs_locstore.proofs.entries.Entries.put_all.Given as goal

abbrev pub invariant-loop-one : goal.invariant-loop-one
invariant-loop-one l = record {
  set : entries_set (are_placed (into_iter_items l.one-iterator)) l.self.table ≡ entries_set (are_placed l.fn.placed) l.fn.self.table;
  can : CanBeAllPut (into_iter_items l.one-iterator);
  room : HasRoomOf (length (into_iter_items l.one-iterator)) l.self.rooms;
}
