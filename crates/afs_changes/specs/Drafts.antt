-- What is drafted of a change.
use Rattle.std.specs.Prelude.{◌≡◌, ℕ, List, [], ◌∷◌, ◌++◌, is_some, map, true}
use Rattle.std.specs.List.{AllByRecursion}
use Rattle.afs_num.specs.declared.histories.Version.{Version}
use Rattle.afs_num.specs.declared.calls.FsCall.{FsCall}
use Rattle.afs_num.specs.declared.calls.FsCall.TheVariants as calls
use Rattle.spec_ideal.specs.Tables.{get, Table}
use Rattle.spec_ideal.specs.Volumes as ideal
use Rattle.spec_ideal.specs.Volumes.{Vnode}
use Rattle.afs_changes.specs.Drawing.{IsLeft, shown_by, with_left}
use Rattle.afs_volume.specs.Giving.{volume_of}
use Rattle.afs_volume.specs.Listed.{listed_as}
use Rattle.afs_changes.specs.declared.drafting.Draft.{Draft}
use Rattle.afs_volume.specs.declared.volume.Volume.{Volume}

-- more is drafted: versions that are told, vnodes that are left, each with its names, numbers of those that are gone
pub record Draws (told : List Version) (left : Table Vnode) (gone : List ℕ) (old new : Draft) : Type 0 where
  pub time : new.time ≡ old.time
  pub versions : new.versions ≡ old.versions ++ told
  pub vnodes : shown_by new.vnodes ≡ shown_by old.vnodes ++ left
  pub removed : new.removed ≡ old.removed ++ gone
  pub images : AllByRecursion (IsLeft old.time) old.vnodes → AllByRecursion (IsLeft new.time) new.vnodes
  pub names : old.names ≡ map listed_as old.vnodes → new.names ≡ map listed_as new.vnodes

-- the volume as the draft leaves it
abbrev pub volume_drafted : Draft → Volume → ideal.Volume
volume_drafted d w = with_left (shown_by d.vnodes) d.removed (volume_of w)

-- the numbers of the vnodes whose statuses a reply has, where n is shown beside those that the call names
abbrev pub numbers_shown : ℕ → FsCall → List ℕ
numbers_shown n (calls.StoreData f status position stored file_length contents) = f.vnode ∷ []
numbers_shown n (calls.StoreAcl f acl) = f.vnode ∷ []
numbers_shown n (calls.StoreStatus f status) = f.vnode ∷ []
numbers_shown n (calls.RemoveFile d name) = d.vnode ∷ []
numbers_shown n (calls.CreateFile d name status) = n ∷ d.vnode ∷ []
numbers_shown n (calls.Rename d old e new) = d.vnode ∷ e.vnode ∷ []
numbers_shown n (calls.Symlink d name target status) = n ∷ d.vnode ∷ []
numbers_shown n (calls.Link d name f) = f.vnode ∷ d.vnode ∷ []
numbers_shown n (calls.MakeDir d name status) = n ∷ d.vnode ∷ []
numbers_shown n (calls.RemoveDir d name) = d.vnode ∷ []
numbers_shown n call = []

-- a vnode is left under this number
abbrev pub IsLeftIn : Table Vnode → ℕ → Type 0
IsLeftIn t n = is_some (get n t) ≡ true
