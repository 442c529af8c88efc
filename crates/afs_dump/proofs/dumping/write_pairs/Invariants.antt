use Rattle.std.proofs.Common.{◌≡◌, ◌++◌, take}
use Rattle.std.specs.List.{flat_map}
use Rattle.afs_dump.specs.Telling.{pair_told}
use Rattle.afs_dump.proofs.dumping.write_pairs.Given as goal

abbrev pub invariant-loop-place : goal.invariant-loop-place
invariant-loop-place l = l.w ≡ l.fn.w ++ flat_map pair_told (take l.place l.vnodes.table)
