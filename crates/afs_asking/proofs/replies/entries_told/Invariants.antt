use Rattle.std.proofs.Common.{◌≡◌, ◌++◌, length, map}
use Rattle.spec_rows.specs.ClientRow.{entries_told}
use Rattle.afs_entries.specs.Cached.{entry_of}
use Rattle.afs_asking.proofs.replies.entries_told.Given as goal

abbrev pub invariant-loop-told : goal.invariant-loop-told
invariant-loop-told l = map entry_of l.all.items ++ entries_told l.server l.sync l.fids l.statuses l.callbacks ≡ entries_told l.server l.sync l.fn.fids l.fn.statuses l.fn.callbacks

abbrev pub decreases-loop-told : goal.decreases-loop-told
decreases-loop-told l = length l.fids
