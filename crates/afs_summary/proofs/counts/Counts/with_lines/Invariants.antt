use Rattle.std.proofs.Common.{◌≡◌, drop}
use Rattle.afs_summary.specs.Counting.{with_lines}
use Rattle.afs_summary.proofs.counts.Counts.with_lines.Given as goal

abbrev pub invariant-loop-line : goal.invariant-loop-line
invariant-loop-line l = with_lines l.counts (drop l.line-index l.lines) ≡ with_lines l.fn.self l.lines
