use Rattle.std.proofs.Common.{◌≡◌, drop}
use Rattle.afs_summary.specs.Counting.{with_kept}
use Rattle.afs_summary.proofs.counts.Counts.with_entries.Given as goal

abbrev pub invariant-loop-entry : goal.invariant-loop-entry
invariant-loop-entry l = with_kept l.counts (drop l.entry-index l.entries) ≡ with_kept l.fn.self l.entries
