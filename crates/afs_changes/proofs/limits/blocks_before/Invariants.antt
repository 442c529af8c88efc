use Rattle.std.proofs.Common.{◌≡◌, ◌≤◌, ◌+◌, ◌*◌, ◌^◌, drop}
use Rattle.afs_changes.specs.Counting.{blocks_before}
use Rattle.afs_changes.specs.Planning.{edits_seen}
use Rattle.afs_volume.specs.Giving.{volume_of}
use Rattle.afs_changes.proofs.limits.blocks_before.Given as goal

abbrev pub invariant-loop-edit : goal.invariant-loop-edit
invariant-loop-edit l = record {
  rest : l.sum + blocks_before (edits_seen (drop l.edit-index l.edits)) (volume_of l.volume) ≡ blocks_before (edits_seen l.edits) (volume_of l.volume);
  small : l.sum ≤ l.edit-index * 2 ^ 54;
}
