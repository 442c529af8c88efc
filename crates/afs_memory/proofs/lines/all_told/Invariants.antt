use Rattle.std.proofs.Common.{◌≡◌, ◌++◌, drop, map}
use Rattle.spec_records.specs.Durable.{outcome_versions}
use Rattle.afs_volume.specs.Seen.{volume_seen}
use Rattle.afs_memory.specs.Telling.{outcomes_seen, version_within}
use Rattle.afs_memory.proofs.lines.all_told.Given as goal

abbrev pub invariant-loop-place : goal.invariant-loop-place
invariant-loop-place l = record {
  told : l.versions ++ map version_within (outcome_versions l.volume.head.id (volume_seen l.volume.head l.volume.vnodes.table) (outcomes_seen l.images (drop l.place l.outcomes.table)))
      ≡ map version_within (outcome_versions l.volume.head.id (volume_seen l.volume.head l.volume.vnodes.table) (outcomes_seen l.images l.outcomes.table));
}
