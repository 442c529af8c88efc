-- What a record of a volume server says, ready to be done, and the record that says it.
use Rattle.std.specs.Prelude.{◌≡◌, ℕ, List, true, Option, Some, None, Ok}
use Rattle.afs_num.specs.Nodes.{node_number}
use Rattle.afs_num.specs.declared.records.RecordBody.{RecordBody}
use Rattle.afs_num.specs.declared.records.RecordBody.TheVariants as bodies
use Rattle.spec_ideal.specs.Tables.{get}
use Rattle.spec_records.specs.Durable.{Durable, Stored}
use Rattle.spec_dumps.specs.Clones.{cloned, recloned}
use Rattle.spec_dumps.specs.Restores.{restored_from}
use Rattle.spec_fold.specs.Deeds.{can_take, created}
use Rattle.afs_shelves.specs.Shelving.{is_new_in, shelved, stored_as}
use Rattle.afs_shelves.specs.declared.deed.CloneDeed.{CloneDeed}
use Rattle.afs_shelves.specs.declared.deed.Deed.{Deed}
use Rattle.afs_shelves.specs.declared.deed.Deed.TheVariants as deeds
use Rattle.afs_shelves.specs.declared.deed.RestoreDeed.{RestoreDeed}
use Rattle.afs_shelves.specs.declared.shelf.Shelf.{Shelf}
use Rattle.afs_volume.specs.declared.volume.Volume.{Volume}

-- ---- the record

-- a new volume has its root alone, so its head tells all of it
abbrev pub create_body : Shelf → RecordBody
create_body s =
    bodies.Create s.volume.head.id s.volume.head.family s.volume.head.name s.volume.head.kind s.volume.head.flags s.volume.head.quota s.is_new

abbrev pub deed_body : Deed → RecordBody
deed_body (deeds.Create s) = create_body s
deed_body (deeds.Delete id) = bodies.Delete id
deed_body (deeds.Clone c) = bodies.Clone c.source c.volume.head.id c.name c.kind c.release
deed_body (deeds.Restore r) = bodies.Restore r.volume.head.id r.dump
deed_body (deeds.Flags id flags) = bodies.Flags id flags
deed_body (deeds.Forward id to) = bodies.Forward id (node_number to)
deed_body deeds.Stamp = bodies.Stamp

-- ---- what was made beforehand is what the record makes

abbrev pub IsCreated : Shelf → Type 0
IsCreated s =
    shelved s ≡ created s.volume.head.family s.volume.head.name s.volume.head.kind s.volume.head.flags s.volume.head.quota s.is_new

-- a clone is a new one; or it is made anew of the one that has its number, and is new where that is
abbrev pub clone_by : List ℕ → ℕ → ℕ → Stored → Option Stored → Stored
clone_by name kind release s None = cloned name kind release s
clone_by name kind release s (Some old) = recloned old release s

abbrev pub IsCloneIn : Durable → CloneDeed → Type 0
IsCloneIn d c = (s : Stored) → get c.source d.volumes ≡ Some s
    → stored_as (is_new_in c.volume.head.id d.volumes) c.volume ≡ clone_by c.name c.kind c.release s (get c.volume.head.id d.volumes)

-- the dump makes this volume of the one that has its number, and it is new where that is
abbrev pub IsRestoredIn : Durable → List ℕ → Volume → Type 0
IsRestoredIn d dump v = (s : Stored) → get v.head.id d.volumes ≡ Some s → restored_from v.head.id s dump ≡ Ok (stored_as s.is_new v)

abbrev pub IsMadeIn : Durable → Deed → Type 0
IsMadeIn d (deeds.Create s) = IsCreated s
IsMadeIn d (deeds.Clone c) = IsCloneIn d c
IsMadeIn d (deeds.Restore r) = IsRestoredIn d r.dump r.volume
IsMadeIn d deed = Unit {0}

-- it can be taken there
pub record SuitsDeed (deed : Deed) (d : Durable) : Type 0 where
  pub can : can_take (deed_body deed) d ≡ true
  pub made : IsMadeIn d deed
