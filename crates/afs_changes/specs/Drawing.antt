-- What the edits of an operation leave and tell, each of the volume as it was before all of them.
use Rattle.std.specs.Prelude.{◌≡◌, ◌<◌, ℕ, ◌+◌, List, [], ◌∷◌, ◌++◌, map, filter, not, true, false, Bool, Option, Some, None, nat_eq}
use Rattle.std.specs.List.{list_any}
use Rattle.afs_num.specs.declared.histories.Version.{Version}
use Rattle.afs_num.specs.declared.vnodes.Vnode as image
use Rattle.spec_ideal.specs.AccessLists.{no_acl}
use Rattle.spec_ideal.specs.Operations.{edit_fits, last_count}
use Rattle.spec_ideal.specs.Tables.{get, Table}
use Rattle.spec_ideal.specs.VnodeImage.{FitsImage}
use Rattle.spec_ideal.specs.Volumes.{VnodeKind, a_directory, Vnode, Volume, Edit, amends, makes, frees, amended, version_at, gone_at, edit_number}
use Rattle.spec_ideal.proofs.Looks.{one_edit}
use Rattle.spec_records.specs.Changes.{gone_between}
use Rattle.afs_volume.specs.Seen.{seen, IsReadable}

-- ---- one edit

abbrev pub before_edit : Volume → Edit → Option Vnode
before_edit v e = get (edit_number e) v.vnodes

-- what it leaves at its number
abbrev pub after_edit : Volume → Edit → Option Vnode
after_edit v e = one_edit (v.counter + 1) v.next e (before_edit v e)

abbrev pub left_at : ℕ → Option Vnode → Table Vnode
left_at n None = []
left_at n (Some x) = (n, x) ∷ []

abbrev pub told_between : ℕ → ℕ → Option Vnode → Option Vnode → List Version
told_between id n before (Some x) = version_at id n x ∷ []
told_between id n (Some x) None = gone_at id n x ∷ []
told_between id n None None = []

abbrev pub left_by : Volume → Edit → Table Vnode
left_by v e = left_at (edit_number e) (after_edit v e)

abbrev pub told_by : ℕ → Volume → Edit → List Version
told_by id v e = told_between id (edit_number e) (before_edit v e) (after_edit v e)

abbrev pub freed_by : Volume → Edit → List ℕ
freed_by v e = gone_between (edit_number e) (before_edit v e) (after_edit v e)

-- ---- all of them

abbrev pub all_left : Volume → List Edit → Table Vnode
all_left v [] = []
all_left v (e ∷ es) = left_by v e ++ all_left v es

abbrev pub all_told : ℕ → Volume → List Edit → List Version
all_told id v [] = []
all_told id v (e ∷ es) = told_by id v e ++ all_told id v es

abbrev pub all_freed : Volume → List Edit → List ℕ
all_freed v [] = []
all_freed v (e ∷ es) = freed_by v e ++ all_freed v es

abbrev pub makes_vnode : Edit → Bool
makes_vnode (makes n x) = true
makes_vnode e = false

-- ---- edits that can be drawn

-- the vnode has what one of its kind has
abbrev pub HasOwn : VnodeKind → Vnode → Type 0
HasOwn a_directory x = x.contents ≡ []
HasOwn kind x = (x.names ≡ []) × (x.acl ≡ no_acl)

-- it is of a vnode that is there, and leaves it what its kind has, or of a new one
abbrev pub StandsAt : Volume → Edit → Option Vnode → Type 0
StandsAt v (amends n a) None = Unit {0}
StandsAt v (amends n a) (Some x) = HasOwn x.kind (amended (v.counter + 1) a x)
StandsAt v (makes n x) o = o ≡ None
StandsAt v (frees n) o = Unit {0}

-- and no count is at its last value
pub record CanBeDrawn (v : Volume) (e : Edit) : Type 0 where
  pub counter : v.counter < last_count
  pub fits : edit_fits v e ≡ true
  pub stands : StandsAt v e (before_edit v e)

-- ---- images

-- an image as a change leaves it: it can be seen, is within the limits, and has the time of the change
pub record IsLeft (now : ℕ) (x : image.Vnode) : Type 0 where
  pub readable : IsReadable x
  pub fits : FitsImage x
  pub time : x.server_time ≡ now

abbrev pub numbered : image.Vnode → ℕ × Vnode
numbered x = (x.vnode, seen x)

-- images as the vnodes that they show, by their numbers
abbrev pub shown_by : List image.Vnode → Table Vnode
shown_by xs = map numbered xs

abbrev pub without : List ℕ → Table Vnode → Table Vnode
without numbers t = filter (λ (p : ℕ × Vnode). not (list_any (λ n. nat_eq n p.0) numbers)) t

-- the volume as a change leaves it, as far as its vnodes are found by their numbers: those that it left, and the others
abbrev pub with_left : Table Vnode → List ℕ → Volume → Volume
with_left left gone v = record v { vnodes = left ++ without gone v.vnodes }
