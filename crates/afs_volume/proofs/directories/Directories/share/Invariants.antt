use Rattle.std.proofs.Common.{take, nat_eq}
use Rattle.indexmap.specs.IndexMap as maps
use Rattle.afs_volume.specs.Listed.{Lists}
use Rattle.afs_volume.specs.Seen.{all_seen}
use Rattle.afs_volume.proofs.directories.Directories.share.Given as goal

abbrev pub invariant-loop-place : goal.invariant-loop-place
invariant-loop-place l = Lists (maps.get nat_eq l.dirs.dirs) (all_seen (take l.place l.vnodes.table))
