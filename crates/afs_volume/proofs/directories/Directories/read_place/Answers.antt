use Rattle.std.proofs.Common.{nat_eq, sym}
use Rattle.indexmap.specs.IndexMap as maps
use Rattle.afs_volume.proofs.Listing.{none_more, one_more_as}
use Rattle.afs_volume.proofs.directories.Directories.read_place.Goals as goal

pub returns-in_ok-set-in-Some-clause-listed : goal.returns-in_ok-set-in-Some-clause-listed
returns-in_ok-set-in-Some-clause-listed c =
    one_more_as (maps.get nat_eq c.args.self.now.dirs) (maps.get nat_eq c.set.new.self.dirs) c.args.vnodes.now.table c.args.place c.in-Some.x.now c.in_ok-names-in-Some.names
    c.requires.ordered c.in-Some.ensures.pair c.in_ok-names-in-Some.ensures.names c.in_ok-set-in-Some.ensures.value c.requires.listed

pub returns-in-None-clause-listed : goal.returns-in-None-clause-listed
returns-in-None-clause-listed c = none_more (maps.get nat_eq c.args.self.now.dirs) c.args.vnodes.now.table c.args.place (sym c.in-None.ensures.pair) c.requires.listed
