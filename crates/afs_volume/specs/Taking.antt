-- A change that a volume takes in: what becomes of the table of its vnodes, and what it is as a disk keeps it.
use Rattle.std.specs.Prelude.{◌≡◌, ◌≤◌, ℕ, List, [], ◌∷◌, Bool, true, false, is_some, length, map, nat_eq, if◌then◌else◌}
use Rattle.std.specs.List.{list_any, AllByRecursion}
use Rattle.indexmap.specs.IndexMap.{spare}
use Rattle.afs_num.specs.declared.vnodes.Vnode as image
use Rattle.afs_num.specs.declared.volumes.VolumeHead.{VolumeHead}
use Rattle.afs_num.specs.declared.volumes.Change.{Change}
use Rattle.spec_ideal.specs.Tables.{Table, set, unset}
use Rattle.spec_ideal.specs.VnodeImage.{FitsImage}
use Rattle.spec_records.specs.Changes.{at_set_up}
use Rattle.spec_records.specs.Durable.{Stored, changed_stored}
use Rattle.afs_volume.specs.Seen.{volume_seen, IsReadable}
use Rattle.afs_volume.specs.declared.volume.Volume.{Volume}

-- when each vnode was changed last
abbrev pub times_in : Table image.Vnode → Table ℕ
times_in t = map (λ (p : ℕ × image.Vnode). (p.0, p.1.server_time)) t

-- a volume with its times, as a disk keeps it
abbrev pub stored_with : VolumeHead → Table image.Vnode → Stored
stored_with head t = record { volume = volume_seen head t; times = times_in t; is_new = false }

abbrev pub stored_of : Volume → Stored
stored_of v = stored_with v.head v.vnodes.table

-- The volume is as set-up leaves one: all its times are 0.
abbrev pub IsAtSetUp : Volume → Type 0
IsAtSetUp v = stored_of v ≡ at_set_up (volume_seen v.head v.vnodes.table)

-- A change that a volume can take in: a disk would take its record, and each vnode has an image that can be read.
pub record CanTakeIn (v : Volume) (c : Change) : Type 0 where
  pub taken : is_some (changed_stored c.counter c.unique c.vnodes c.removed (stored_of v)) ≡ true
  pub read : AllByRecursion IsReadable c.vnodes
  pub fits : AllByRecursion FitsImage c.vnodes

-- There is room for so many more vnodes, and for the names of as many directories.
pub record HasRoomFor (v : Volume) (count : ℕ) : Type 0 where
  pub vnodes : count ≤ v.vnodes.room
  pub dirs : count ≤ spare v.dirs.dirs

-- There is room for the change, as a call that reserves makes it.
abbrev pub HasRoom : Volume → Change → Type 0
HasRoom v c = HasRoomFor v (length c.vnodes)

abbrev pub is_among : ℕ → List ℕ → Bool
is_among n ns = list_any (λ (m : ℕ). nat_eq m n) ns

-- the table without the vnodes of these numbers
abbrev pub without_all : List ℕ → Table image.Vnode → Table image.Vnode
without_all [] t = t
without_all (n ∷ ns) t = without_all ns (unset n t)

-- these vnodes put one after the other, but for those that are removed
abbrev pub put_but : List ℕ → List image.Vnode → Table image.Vnode → Table image.Vnode
put_but removed [] t = t
put_but removed (x ∷ xs) t = put_but removed xs (if is_among x.vnode removed then t else set x.vnode x t)
