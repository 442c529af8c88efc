use Rattle.std.proofs.Common.{nat_eq, List, Ok, ap, sym, ◌∙◌}
use Rattle.indexmap.specs.IndexMap as maps
use Rattle.afs_num.specs.declared.directories.Name.{Name}
use Rattle.afs_volume.proofs.Listing.{kept_directory, some_directory}
use Rattle.afs_volume.proofs.Spelled.{contents_read}
use Rattle.afs_volume.proofs.volume.Volume.names.Goals as goal

pub unreachable-requires : goal.unreachable-requires
unreachable-requires c =
    let v = c.args.self.now in
    some_directory (maps.get nat_eq v.dirs.dirs) v.vnodes.table c.args.number c.args.d.now v.listed c.requires.there c.requires.directory c.in-None.ensures

pub returns-clause-names : goal.returns-clause-names
returns-clause-names c =
    let v = c.args.self.now in
    kept_directory (maps.get nat_eq v.dirs.dirs) v.vnodes.table c.args.number c.args.d.now c.in-Some.names.now v.listed c.requires.there c.requires.directory c.in-Some.ensures

pub returns-clause-read : goal.returns-clause-read
returns-clause-read c =
    let v = c.args.self.now in
    let names = kept_directory (maps.get nat_eq v.dirs.dirs) v.vnodes.table c.args.number c.args.d.now c.in-Some.names.now v.listed c.requires.there c.requires.directory c.in-Some.ensures in
    contents_read c.args.d.now (v.readable c.args.number c.args.d.now c.requires.there) c.requires.directory ∙ ap (λ (ns : List Name). Ok ns) (sym names)
