use Rattle.std.proofs.Common.{◌≡◌, [], drop}
use Rattle.spec_records.specs.Durable.{with_outcomes}
use Rattle.afs_memory.specs.Telling.{outcomes_seen}
use Rattle.afs_memory.proofs.lines.places.Given as goal

abbrev pub invariant-loop-place : goal.invariant-loop-place
invariant-loop-place l = record {
  placed : with_outcomes (drop l.place l.images) (outcomes_seen l.images l.places.table) ≡ with_outcomes l.images [];
}
