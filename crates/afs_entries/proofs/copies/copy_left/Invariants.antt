use Rattle.std.proofs.Common.{◌≡◌, ◌++◌, map, length}
use Rattle.std.specs.List.{IsDistinct}
use Rattle.std.specs.Map.{keys_of}
use Rattle.afs_entries.specs.Cached.{cached, left, same_slot}
use Rattle.afs_entries.proofs.copies.copy_left.Given as goal

abbrev pub invariant-loop-slot : goal.invariant-loop-slot
invariant-loop-slot l = record {
  all : map cached l.copies.entries ++ left l.drops (map cached l.pairs) ≡ left l.drops (map cached l.entries.entries);
  apart : IsDistinct same_slot (keys_of (l.copies.entries ++ l.pairs));
  wide : l.copies.cap ≡ 18446744073709551615;
}

abbrev pub decreases-loop-slot : goal.decreases-loop-slot
decreases-loop-slot l = length l.pairs
