use Rattle.std.proofs.Common.{◌≡◌, ◌≤◌, ◌*◌, take}
use Rattle.spec_ideal.specs.Volumes.{blocks_in}
use Rattle.afs_volume.specs.Seen.{all_seen}
use Rattle.afs_volume.proofs.assembling.blocks_in.Given as goal

abbrev pub invariant-loop-place : goal.invariant-loop-place
invariant-loop-place l = record {
  value : l.sum ≡ blocks_in (all_seen (take l.place l.vnodes.table));
  few : l.sum ≤ 2048 * l.place;
}
