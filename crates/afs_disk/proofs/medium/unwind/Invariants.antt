use Rattle.std.proofs.Common.{◌≡◌, length}
use Rattle.std.specs.Prelude.{vec_len}
use Rattle.afs_disk.specs.Spans.{Fit, unwound}
use Rattle.afs_disk.proofs.medium.unwind.Given as goal

-- what is left to take back gives the whole
abbrev pub invariant-loop-span : goal.invariant-loop-span
invariant-loop-span l = record {
  whole : unwound l.spans.items l.saved.items l.bytes ≡ unwound l.fn.spans.items l.fn.saved.items l.fn.bytes;
  fit : Fit l.spans.items (length l.saved.items) (length l.bytes);
}

abbrev pub decreases-loop-span : goal.decreases-loop-span
decreases-loop-span l = vec_len l.spans
