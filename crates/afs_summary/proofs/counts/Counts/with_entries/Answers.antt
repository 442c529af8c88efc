use Rattle.std.proofs.Common.{rules}
use Rattle.afs_summary.proofs.Counted.{entry_stops}
use Rattle.afs_summary.proofs.counts.Counts.with_entries.Goals as goal

pub returns-in_err-counts : goal.returns-in_err-counts
returns-in_err-counts c = entry_stops _ _ _ _ _ c.with_entry.result c.from_residual.result c.loop-entry-test.true c.entry-item.is c.loop-entry.invariant c.with_entry.ensures (search rules) (search rules)
