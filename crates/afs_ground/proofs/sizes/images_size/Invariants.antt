use Rattle.std.proofs.Common.{◌≡◌, ◌≤◌, ◌*◌, take}
use Rattle.afs_ground.specs.Sizes.{images_size}
use Rattle.afs_ground.proofs.sizes.images_size.Given as goal

abbrev pub invariant-loop-place : goal.invariant-loop-place
invariant-loop-place l = record {
  value : l.size ≡ images_size (take l.place l.vnodes.table);
  few : l.size ≤ 2100000 * l.place;
}
