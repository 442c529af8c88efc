use Rattle.std.proofs.Common.{◌<◌, ◌^◌, length, drop, arith, refl, rules}
use Rattle.std.proofs.lemmas.List.{drop_all}
use Rattle.indexmap.specs.IndexMap as maps
use Rattle.afs_volume.specs.Naming.{same_naming}
use Rattle.afs_volume.proofs.Counted.{all_counted, few, naming_of, one_more}
use Rattle.afs_volume.proofs.naming.NameCounts.add_names.Goals as goal

pub add-requires : goal.add-requires
add-requires c =
    let key = naming_of c.args.directory c.name-item.result in
    let most = few (maps.get same_naming c.loop-name.self.counts) (maps.get same_naming c.args.self.now.counts) c.args.directory (drop c.loop-name.name-index c.args.names.now) c.args.names.now key (c.requires key refl) c.loop-name.invariant in
    let small : length c.args.names.now < 2 ^ 63 = search rules in omega (arith, most, small)

pub loop-name-preserved : goal.loop-name-preserved
loop-name-preserved c =
    one_more (maps.get same_naming c.args.self.now.counts) (maps.get same_naming c.loop-name.self.counts) (maps.get same_naming c.add.new.self.counts) c.args.directory c.loop-name.name-index c.args.names.now c.name-item.result
    c.loop-name-test.true c.name-item.is c.in_ok-add.ensures c.loop-name.invariant

pub returns : goal.returns
returns c =
    all_counted (maps.get same_naming c.loop-name.self.counts) (maps.get same_naming c.args.self.now.counts) c.args.directory (drop c.loop-name.name-index c.args.names.now) c.args.names.now (drop_all c.loop-name.name-index c.args.names.now c.loop-name-test.false) c.loop-name.invariant
