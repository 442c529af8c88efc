use Rattle.std.proofs.Common.{take}
use Rattle.indexmap.specs.IndexMap as maps
use Rattle.afs_volume.specs.Naming.{same_naming, CountsNames}
use Rattle.afs_volume.proofs.naming.NameCounts.of.Given as goal

abbrev pub invariant-loop-place : goal.invariant-loop-place
invariant-loop-place l = CountsNames (maps.get same_naming l.counts.counts) (take l.place l.vnodes.table)
