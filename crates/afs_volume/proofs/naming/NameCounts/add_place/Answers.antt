use Rattle.std.proofs.Common.{nat_eq, sym}
use Rattle.indexmap.specs.IndexMap as maps
use Rattle.afs_volume.specs.Naming.{same_naming}
use Rattle.afs_volume.proofs.Counted.{no_place_more, none_counted, one_place_more}
use Rattle.afs_volume.proofs.naming.NameCounts.add_place.Goals as goal

pub add_names-requires : goal.add_names-requires
add_names-requires c = none_counted (maps.get same_naming c.args.self.now.counts) c.args.vnodes.now.table c.args.place c.in-Some.x.now c.requires.ordered c.in-Some.ensures.pair c.requires.counted

pub returns-in_ok-add_names-in-Some : goal.returns-in_ok-add_names-in-Some
returns-in_ok-add_names-in-Some c =
    one_place_more (maps.get same_naming c.args.self.now.counts) (maps.get same_naming c.add_names.new.self.counts) (maps.get nat_eq c.args.dirs.now.dirs) c.args.vnodes.now.table c.args.place c.in-Some.x.now c.names.result.now
    c.requires.ordered c.in-Some.ensures.pair c.requires.listed c.names.ensures c.in_ok-add_names-in-Some.ensures c.requires.counted

pub returns-in-None : goal.returns-in-None
returns-in-None c = no_place_more (maps.get same_naming c.args.self.now.counts) c.args.vnodes.now.table c.args.place (sym c.in-None.ensures.pair) c.requires.counted
