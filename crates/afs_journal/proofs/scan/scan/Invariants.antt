use Rattle.std.proofs.Common.{◌≡◌, ◌<◌, suc, ◌++◌, length, map}
use Rattle.afs_journal.specs.Found.{piece_of}
use Rattle.afs_journal.specs.Records.{blocks, Fit}
use Rattle.afs_journal.proofs.scan.scan.Given as goal

-- the bytes are the records found so far, and the rest
abbrev pub invariant-loop-body : goal.invariant-loop-body
invariant-loop-body l = record {
  split : l.bytes ≡ blocks 1 (map (piece_of l.bytes) l.found.items) ++ l.rest;
  more : 0 < length l.rest;
  fit : Fit 1 (map (piece_of l.bytes) l.found.items);
  counted : l.number ≡ suc (length (map (piece_of l.bytes) l.found.items));
}

abbrev pub decreases-loop-body : goal.decreases-loop-body
decreases-loop-body l = length l.rest
