use Rattle.std.proofs.Common.{◌≡◌, ◌++◌, drop, length, None}
use Rattle.std.specs.Map.{lookup}
use Rattle.afs_entries.specs.Cached.{same_slot}
use Rattle.afs_entries.proofs.putting.is_in_tail.Given as goal

abbrev pub invariant-loop-key : goal.invariant-loop-key
invariant-loop-key l = record {
  front : l.pairs ++ drop (length l.pairs) l.entries.entries ≡ l.entries.entries;
  missing : lookup (same_slot l.slot) (drop (length l.pairs) l.entries.entries) ≡ None;
}

abbrev pub decreases-loop-key : goal.decreases-loop-key
decreases-loop-key l = length l.pairs
