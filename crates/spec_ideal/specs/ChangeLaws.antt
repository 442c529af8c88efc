-- Laws about changes, whatever makes them: lists of edits.
use Rattle.std.specs.Prelude.{◌≡◌, ◌≤◌, ◌<◌, ◌⊎◌, ◌+◌, ℕ, List, [], ◌∷◌, Bool, true, false, ◌||◌, ◌&&◌, Option, Some, None, nat_eq, length, map}
use Rattle.afs_num.specs.Fids.{same_fid}
use Rattle.afs_num.specs.declared.types.Fid.{Fid}
use Rattle.afs_num.specs.declared.calls.FsCall.{FsCall}
use Rattle.afs_num.specs.declared.calls.FsCall.TheVariants as calls
use Rattle.afs_num.specs.declared.directories.Name.{Name}
use Rattle.afs_num.specs.declared.histories.Body.TheVariants as bodies
use Rattle.afs_num.specs.declared.histories.Version.{Version}
use Rattle.spec_ideal.specs.Tables.{Table, get, AscendsFrom}
use Rattle.spec_ideal.specs.Volumes.{VnodeKind, a_file, a_directory, a_link, Vnode, Volume, fid_of, Edit, amends, makes, frees, fresh, has_body, up_if, version_at, edited, edited_all, versions_by, counted}
use Rattle.spec_ideal.specs.Operations.{Caller, name_in, free_number, changes, op, IsOn}
use Rattle.spec_ideal.specs.SetUp.{first_versions}
use Rattle.spec_ideal.specs.Soundness.{IsSound}
use Rattle.spec_ideal.specs.Told.{fid_at, last_told, on_top, touches, Agrees, AreNext}

-- what was told last is what the volume holds, before a change and after it
abbrev pub ToldIsHeld : Type 0
ToldIsHeld = (id : ℕ) (es : List Edit) (v : Volume) (told : List Version) → Agrees id v told → Agrees id (counted (edited_all id es v)) (on_top (versions_by id es v) told)

-- and so it is where each vnode was told once
abbrev pub FirstIsHeld : Type 0
FirstIsHeld = (id : ℕ) (v : Volume) → AscendsFrom 1 v.vnodes → ((n : ℕ) (x : Vnode) → get n v.vnodes ≡ Some x → x.unique < v.next) → Agrees id v (first_versions id v.vnodes)

-- each version that a change tells follows the last one of its fid: indexes rise by one
abbrev pub VersionsFollow : Type 0
VersionsFollow = (id : ℕ) (es : List Edit) (v : Volume) (told : List Version) → Agrees id v told → AreNext id (versions_by id es v) told

-- a fid that is gone has no version any more
abbrev pub GoneIsLast : Type 0
GoneIsLast = (id : ℕ) (es : List Edit) (v : Volume) (told : List Version) (f : Fid) (last : Version) → Agrees id v told →
    last_told f told ≡ Some last → last.body ≡ bodies.Gone → touches f (versions_by id es v) ≡ false

-- a new vnode's fid was never seen, whatever its number
pub record IsUnseen (id n : ℕ) (x : Vnode) (v : Volume) (told : List Version) : Type 0 where
  pub version : (edited id (makes n x) v).versions ≡ version_at id n (fresh (v.counter + 1) v.next x) ∷ []
  pub unseen : (m : ℕ) → last_told (fid_at id m v.next) told ≡ None

abbrev pub NewIsUnseen : Type 0
NewIsUnseen = (id n : ℕ) (x : Vnode) (v : Volume) (told : List Version) → Agrees id v told → get n v.vnodes ≡ None → IsUnseen id n x v told

-- ---- what a call may touch

-- a new name in a directory touches the directory, a further name the file as well; what takes names away may touch any vnode
-- of the volume
abbrev pub is_in_scope : FsCall → Fid → Bool
is_in_scope (calls.StoreData f status position stored file_length contents) g = same_fid f g
is_in_scope (calls.StoreAcl f acl) g = same_fid f g
is_in_scope (calls.StoreStatus f status) g = same_fid f g
is_in_scope (calls.CreateFile d name status) g = same_fid d g
is_in_scope (calls.Symlink d name target status) g = same_fid d g
is_in_scope (calls.MakeDir d name status) g = same_fid d g
is_in_scope (calls.Link d name f) g = same_fid d g || same_fid f g
is_in_scope (calls.RemoveFile d name) g = nat_eq d.volume g.volume
is_in_scope (calls.RemoveDir d name) g = nat_eq d.volume g.volume
is_in_scope (calls.Rename d old e new) g = nat_eq d.volume g.volume
is_in_scope call g = false

-- beside what is in its scope a call touches new fids alone
abbrev pub ChangesStayInScope : Type 0
ChangesStayInScope = (id : ℕ) (caller : Caller) (call : FsCall) (v : Volume) (es : List Edit) (n : ℕ) (g : Fid) → IsOn id call →
    op id caller call v ≡ changes es n → touches g (versions_by id es v) ≡ true → (is_in_scope call g ≡ true) ⊎ (v.next ≤ g.unique)

-- ---- what a call may touch, exactly

-- the vnode that a name gives
abbrev pub is_given : Option Name → Fid → Bool
is_given None g = false
is_given (Some n) g = nat_eq n.vnode g.vnode && nat_eq n.unique g.unique

-- the vnode that is made next, of this kind
abbrev pub is_made : VnodeKind → Volume → Fid → Bool
is_made kind v g = nat_eq (free_number kind v) g.vnode && nat_eq v.next g.unique

-- Of the volume as it was before the call: a store touches its vnode; a new name its directory and the vnode that is made; a
-- further name its directory and the file; what takes a name away the directory and the vnode that the name gives; Rename both
-- directories, the vnode that moves and the one that is replaced.
abbrev pub may_touch : FsCall → Volume → Fid → Bool
may_touch (calls.StoreData f status position stored file_length contents) v g = same_fid f g
may_touch (calls.StoreAcl f acl) v g = same_fid f g
may_touch (calls.StoreStatus f status) v g = same_fid f g
may_touch (calls.CreateFile d name status) v g = same_fid d g || is_made a_file v g
may_touch (calls.Symlink d name target status) v g = same_fid d g || is_made a_link v g
may_touch (calls.MakeDir d name status) v g = same_fid d g || is_made a_directory v g
may_touch (calls.Link d name f) v g = same_fid d g || same_fid f g
may_touch (calls.RemoveFile d name) v g = same_fid d g || is_given (name_in d name v) g
may_touch (calls.RemoveDir d name) v g = same_fid d g || is_given (name_in d name v) g
may_touch (calls.Rename d old e new) v g = same_fid d g || (same_fid e g || (is_given (name_in d old v) g || is_given (name_in e new v) g))
may_touch call v g = false

-- in a sound volume a call touches these alone
abbrev pub ChangesTouchTheirOwn : Type 0
ChangesTouchTheirOwn = (id : ℕ) (caller : Caller) (call : FsCall) (v : Volume) (es : List Edit) (n : ℕ) (g : Fid) → IsSound v → IsOn id call →
    op id caller call v ≡ changes es n → touches g (versions_by id es v) ≡ true → may_touch call v g ≡ true

-- ---- what an operation tells

-- a version of a vnode that is there: the next index, and the next data version exactly where the body is changed
pub record Raises (id n : ℕ) (x : Vnode) (body : Bool) (w : Version) : Type 0 where
  pub fid : w.fid ≡ fid_of id n x
  pub index : w.index ≡ x.index + 1
  pub data_version : w.data_version ≡ up_if body x.data_version

abbrev pub RaisesAt : ℕ → ℕ → Option Vnode → Bool → Version → Type 0
RaisesAt id n None body w = ⊥
RaisesAt id n (Some x) body w = Raises id n x body w

-- the first version of a new vnode
pub record Begins (id n unique : ℕ) (w : Version) : Type 0 where
  pub fid : w.fid ≡ fid_at id n unique
  pub index : w.index ≡ 1
  pub data_version : w.data_version ≡ 1

-- What an edit tells, of the volume as it was before all of them: contents and names change the body, and so does what frees a
-- vnode; a new vnode has a number that was free and the volume's next unique number.
abbrev pub Tells : ℕ → Volume → Edit → Version → Type 0
Tells id v (amends n a) w = RaisesAt id n (get n v.vnodes) (has_body a.contents a.names) w
Tells id v (frees n) w = RaisesAt id n (get n v.vnodes) true w × (w.body ≡ bodies.Gone)
Tells id v (makes n x) w = Begins id n v.next w × (get n v.vnodes ≡ None)

-- each edit tells one version
abbrev pub TellsEach : ℕ → Volume → List Edit → List Version → Type 0
TellsEach id v [] [] = Unit {0}
TellsEach id v (e ∷ es) (w ∷ ws) = Tells id v e w × TellsEach id v es ws
TellsEach id v es ws = ⊥

-- versions under the numbers of their vnodes
abbrev pub by_vnode : List Version → Table Version
by_vnode ws = map (λ (w : Version). (w.fid.vnode, w)) ws

-- One or more versions of distinct fids, by ascending vnode, one for each edit; and at most one new vnode.
pub record IsOneChange (id : ℕ) (es : List Edit) (v : Volume) : Type 0 where
  pub some : 0 < length (versions_by id es v)
  pub ascending : AscendsFrom 0 (by_vnode (versions_by id es v))
  pub told : TellsEach id v es (versions_by id es v)
  pub one_new : (edited_all id es v).next ≤ v.next + 1

-- an accepted operation on a sound volume is one change
abbrev pub OperationsAreChanges : Type 0
OperationsAreChanges = (id : ℕ) (caller : Caller) (call : FsCall) (v : Volume) (es : List Edit) (n : ℕ) → IsSound v → IsOn id call →
    op id caller call v ≡ changes es n → IsOneChange id es v
