use Rattle.std.proofs.Common.{drop}
use Rattle.indexmap.specs.IndexMap as maps
use Rattle.afs_volume.specs.Naming.{same_naming}
use Rattle.afs_volume.proofs.Counted.{Counted}
use Rattle.afs_volume.proofs.naming.NameCounts.add_names.Given as goal

abbrev pub invariant-loop-name : goal.invariant-loop-name
invariant-loop-name l = Counted (maps.get same_naming l.self.counts) (maps.get same_naming l.fn.self.counts) l.directory (drop l.name-index l.names) l.names
