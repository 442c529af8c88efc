use Rattle.std.proofs.Common.{◌≡◌, [], drop}
use Rattle.spec_records.specs.Durable.{with_outcomes, with_removed}
use Rattle.afs_memory.specs.Telling.{outcomes_seen}
use Rattle.afs_memory.proofs.lines.outcomes.Given as goal

abbrev pub invariant-loop-place : goal.invariant-loop-place
invariant-loop-place l = record {
  left : with_removed (drop l.place l.removed) (outcomes_seen l.fn.images l.outcomes.table) ≡ with_removed l.removed (with_outcomes l.fn.images []);
}
