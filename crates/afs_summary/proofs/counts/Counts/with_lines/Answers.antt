use Rattle.std.proofs.Common.{rules}
use Rattle.afs_summary.proofs.Counted.{line_stops}
use Rattle.afs_summary.proofs.counts.Counts.with_lines.Goals as goal

pub returns-in_err-counts : goal.returns-in_err-counts
returns-in_err-counts c = line_stops _ _ _ _ _ c.with_line.result c.from_residual.result c.loop-line-test.true c.line-item.is c.loop-line.invariant c.with_line.ensures (search rules) (search rules)
