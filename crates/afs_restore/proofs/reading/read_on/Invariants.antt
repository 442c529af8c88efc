use Rattle.std.proofs.Common.{◌≡◌, ◌≤◌, ◌-◌, drop, length}
use Rattle.afs_xdr.specs.Words.{IsBytes}
use Rattle.spec_dumps.specs.Laws.{IsReading}
use Rattle.afs_restore.specs.Parts.{Keeps}
use Rattle.afs_restore.specs.ReadOn.{bytes_read}
use Rattle.afs_restore.specs.Steps.{stage_of, IsStep}
use Rattle.afs_restore.proofs.reading.read_on.Given as goal

-- so many bytes are left, and the same were read
abbrev pub invariant-loop-r : goal.invariant-loop-r
invariant-loop-r l = record {
  may : IsStep l.step l.parts;
  many : l.left ≡ length l.r.left;
  within : l.left ≤ length l.bytes;
  place : l.r.left ≡ drop (length l.bytes - l.left) l.bytes;
  fits : IsBytes l.r.left;
  same : bytes_read l.step l.parts l.r.left ≡ bytes_read l.fn.from l.fn.parts l.bytes;
  reading : IsReading (bytes_read l.fn.from l.fn.parts l.bytes) (stage_of l.step l.parts) l.r.left;
  kept : Keeps l.fn.parts l.parts;
}

-- fewer bytes are left with each step
abbrev pub decreases-loop-r : goal.decreases-loop-r
decreases-loop-r l = length l.r.left
