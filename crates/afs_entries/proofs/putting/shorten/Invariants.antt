use Rattle.std.proofs.Common.{◌≡◌, take, length}
use Rattle.afs_entries.proofs.putting.shorten.Given as goal

abbrev pub invariant-loop-entries : goal.invariant-loop-entries
invariant-loop-entries l = record {
  front : take l.count l.entries.entries ≡ take l.count l.fn.entries.entries;
  wide : l.entries.cap ≡ l.fn.entries.cap;
}

abbrev pub decreases-loop-entries : goal.decreases-loop-entries
decreases-loop-entries l = length l.entries.entries
