use Rattle.std.proofs.Common.{nat_eq, sym, ◌∙◌}
use Rattle.indexmap.specs.IndexMap as maps
use Rattle.afs_volume.proofs.Listing.{listed_here, none_more, one_more_as}
use Rattle.afs_volume.proofs.directories.Directories.share_place.Goals as goal

pub returns-in_ok-set-in-Some : goal.returns-in_ok-set-in-Some
returns-in_ok-set-in-Some c =
    let t = c.args.vnodes.now.table in
    one_more_as (maps.get nat_eq c.args.self.now.dirs) (maps.get nat_eq c.set.new.self.dirs) t c.args.place c.in-Some.x.now c.in_ok-names-in-Some.names c.requires.ordered c.in-Some.ensures.pair
    (c.in_ok-names-in-Some.ensures ∙ listed_here (maps.get nat_eq c.args.dirs.now.dirs) t c.args.place c.in-Some.x.now c.requires.ordered c.in-Some.ensures.pair c.requires.all)
    c.in_ok-set-in-Some.ensures.value c.requires.listed

pub returns-in-None : goal.returns-in-None
returns-in-None c = none_more (maps.get nat_eq c.args.self.now.dirs) c.args.vnodes.now.table c.args.place (sym c.in-None.ensures.pair) c.requires.listed
