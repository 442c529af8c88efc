use Rattle.std.proofs.Common.{nat_eq}
use Rattle.indexmap.specs.IndexMap as maps
use Rattle.afs_volume.proofs.Listing.{none_yet}
use Rattle.afs_volume.proofs.directories.Directories.share.Goals as goal

pub loop-place-init : goal.loop-place-init
loop-place-init c = none_yet (maps.get nat_eq c.new-dirs.result.dirs) c.args.vnodes.now.table c.new-dirs.ensures
