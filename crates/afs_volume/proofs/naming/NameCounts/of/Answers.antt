use Rattle.indexmap.specs.IndexMap as maps
use Rattle.afs_volume.specs.Naming.{same_naming}
use Rattle.afs_volume.proofs.Counted.{none_named}
use Rattle.afs_volume.proofs.naming.NameCounts.of.Goals as goal

pub loop-place-init : goal.loop-place-init
loop-place-init c = none_named (maps.get same_naming c.new-counts.result.counts) c.args.vnodes.now.table c.new-counts.ensures
