use Rattle.std.proofs.Common.{nat_eq, ◌∙◌}
use Rattle.indexmap.specs.IndexMap as maps
use Rattle.afs_volume.proofs.Listing.{names_listed}
use Rattle.afs_volume.proofs.soundness.Parts.names.Goals as goal

pub returns : goal.returns
returns c =
    let p = c.args.self.now in
    c.names.ensures ∙ names_listed (maps.get nat_eq p.dirs.now.dirs) p.vnodes.now.table c.args.number p.listed
