use Rattle.std.proofs.Common.{nat_eq, ◌∙◌}
use Rattle.indexmap.specs.IndexMap as maps
use Rattle.afs_volume.proofs.Listing.{names_listed}
use Rattle.afs_volume.proofs.volume.Volume.names_at.Goals as goal

pub returns : goal.returns
returns c =
    let v = c.args.self.now in
    c.names.ensures ∙ names_listed (maps.get nat_eq v.dirs.dirs) v.vnodes.table c.args.number v.listed
