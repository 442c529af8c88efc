use Rattle.std.proofs.Common.{◌≡◌, ◌++◌, take}
use Rattle.std.specs.List.{flat_map}
use Rattle.afs_dump.specs.Telling.{image_told}
use Rattle.afs_dump.proofs.dumping.write_images.Given as goal

abbrev pub invariant-loop-place : goal.invariant-loop-place
invariant-loop-place l = l.w ≡ l.fn.w ++ flat_map (image_told l.from) (take l.place l.vnodes.table)
