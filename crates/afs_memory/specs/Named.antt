-- What comes with a record: the names of the vnodes of a change, and the volume that a dump makes.
use Rattle.std.specs.Prelude.{◌≡◌, true, List, Option, map}
use Rattle.std.specs.List.{AllByRecursion}
use Rattle.afs_num.specs.declared.directories.Name.{Name}
use Rattle.afs_num.specs.declared.records.RecordBody.{RecordBody}
use Rattle.afs_num.specs.declared.records.RecordBody.TheVariants as bodies
use Rattle.afs_volume.specs.Listed.{listed_as}
use Rattle.afs_volume.specs.Seen.{IsReadable}
use Rattle.afs_volume.specs.declared.volume.Volume.{Volume}
use Rattle.spec_records.specs.Durable.{Durable}
use Rattle.spec_fold.specs.Deeds.{can_take}
use Rattle.afs_shelves.specs.Deeds.{IsRestoredIn}

-- a change is told, whose vnodes can be read, and these are their names
abbrev pub IsNamed : RecordBody → List (Option (List Name)) → Type 0
IsNamed (bodies.Change id counter unique vnodes removed) names = (names ≡ map listed_as vnodes) × AllByRecursion IsReadable vnodes
IsNamed body names = ⊥

-- a dump is told, that is restored into the volume with the number of this one
abbrev pub IsRestored : RecordBody → Volume → Type 0
IsRestored (bodies.Restore id dump) v = v.head.id ≡ id
IsRestored body v = ⊥

abbrev pub Makes : RecordBody → Volume → Durable → Type 0
Makes (bodies.Restore id dump) v d = IsRestoredIn d dump v
Makes body v d = ⊥

-- it can be restored there, and makes this volume
pub record IsRestoredThere (body : RecordBody) (v : Volume) (d : Durable) : Type 0 where
  pub can : can_take body d ≡ true
  pub made : Makes body v d
