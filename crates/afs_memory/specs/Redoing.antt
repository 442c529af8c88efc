-- What is done to the volumes in memory.
use Rattle.std.specs.Prelude.{◌≡◌, ◌≤◌, ℕ, List, Bool, false, length, map, nat_lt, Some, None}
use Rattle.std.specs.List.{AllByRecursion}
use Rattle.afs_num.specs.declared.volumes.Change.{Change}
use Rattle.spec_ideal.specs.Tables.{Table, get, set}
use Rattle.spec_ideal.specs.VnodeImage.{FitsImage}
use Rattle.afs_volume.specs.Taking.{stored_of, CanTakeIn, HasRoom}
use Rattle.afs_volume.specs.declared.volume.Volume.{Volume}
use Rattle.spec_records.specs.Durable.{Durable, changed_stored, most_volumes, with_volumes}
use Rattle.afs_seats.specs.Seated.{seen_as, Seated}
use Rattle.afs_shelves.specs.Shelving.{shelved}
use Rattle.afs_shelves.specs.declared.shelf.Shelf.{Shelf}
use Rattle.afs_memory.specs.Redos.{told}
use Rattle.afs_memory.specs.States.{HasRoomFor, HasRoomIn}
use Rattle.afs_memory.specs.declared.memory.State.{State}
use Rattle.afs_memory.specs.declared.redo.Redo.{Redo}
use Rattle.afs_memory.specs.declared.redo.Redo.TheVariants as redos

-- set-up makes no new volumes
abbrev pub laid : Volume → Shelf
laid v = record { volume = v; is_new = false }

-- with these volumes
abbrev pub holding : Durable → Table Shelf → Durable
holding d t = record d { volumes = seen_as shelved t }

-- the fold of a first record with these volumes makes the one table of the other
abbrev pub AreKept : List Volume → Table Shelf → Table Shelf → Type 0
AreKept added old new = (d : Durable) → with_volumes (map told added) (holding d old) ≡ Some (holding d new)

abbrev pub AreTooMany : List Volume → Table Shelf → Type 0
AreTooMany added old = (d : Durable) → with_volumes (map told added) (holding d old) ≡ None

-- the answer whether with a volume of this number there would be too many
abbrev pub TellsFull : Table Shelf → ℕ → Bool → Type 0
TellsFull t id full = (s : Shelf) → full ≡ nat_lt most_volumes (length (set id s t))

-- the volume of this number, if there is one, can take the change in
abbrev pub CanChange : Table Shelf → ℕ → Change → Type 0
CanChange t id c = (s : Shelf) → get id t ≡ Some s → CanTakeIn s.volume c

-- the volume of this number takes the change in
pub record IsChanged (id : ℕ) (c : Change) (old new : Table Shelf) : Type 0 where
  pub before : Shelf
  pub there : get id old ≡ Some before
  pub after : Volume
  pub put : new ≡ set id (record { volume = after; is_new = before.is_new }) old
  pub changed : changed_stored c.counter c.unique c.vnodes c.removed (stored_of before.volume) ≡ Some (stored_of after)

-- the volume of this number, if there is one, can't take the change in
abbrev pub IsRefused : ℕ → Change → Table Shelf → Type 0
IsRefused id c t = (s : Shelf) → get id t ≡ Some s → changed_stored c.counter c.unique c.vnodes c.removed (stored_of s.volume) ≡ None

-- the images that are put are within their limits
abbrev pub FitsRedo : Redo → Type 0
FitsRedo (redos.Change id c) = AllByRecursion FitsImage c.vnodes
FitsRedo redo = Unit {0}

-- a change for which there was room in a volume has it in the other
abbrev pub KeepsChanges : Volume → Volume → Type 0
KeepsChanges before after = (c : Change) → HasRoom before c → HasRoom after c

-- no room goes
pub record KeepsVolumes (old new : Seated Shelf) : Type 0 where
  pub room : old.room ≤ new.room
  pub changes : (id : ℕ) (c : Change) → HasRoomIn old.table id c → HasRoomIn new.table id c

abbrev pub KeepsStates : State → State → Type 0
KeepsStates old new = (redo : Redo) → HasRoomFor redo old → HasRoomFor redo new
