-- What was told of a volume: versions, the newest first. The laws about edits say that what was told last is what the volume
-- holds, and how each version follows the one before of its fid.
use Rattle.std.specs.Prelude.{◌≡◌, ◌≤◌, ◌⊎◌, ◌+◌, ℕ, List, [], ◌∷◌, Bool, true, false, Option, Some, None, if◌then◌else◌}
use Rattle.std.specs.Option.{option_map}
use Rattle.afs_num.specs.Fids.{same_fid}
use Rattle.afs_num.specs.declared.types.Fid.{Fid}
use Rattle.afs_num.specs.declared.histories.Body.{Body}
use Rattle.afs_num.specs.declared.histories.Body.TheVariants as bodies
use Rattle.afs_num.specs.declared.histories.Version.{Version}
use Rattle.spec_ideal.specs.Tables.{get}
use Rattle.spec_ideal.specs.Volumes.{Volume, if_unique, version_at}

-- the last version of the fid
abbrev pub last_told : Fid → List Version → Option Version
last_told f [] = None
last_told f (v ∷ older) = if same_fid v.fid f then Some v else last_told f older

-- the fid had a version of this index, with this body
abbrev pub IsTold : Fid → ℕ → Body → List Version → Type 0
IsTold f index body [] = ⊥
IsTold f index body (v ∷ older) = ((v.fid ≡ f) × ((v.index ≡ index) × (v.body ≡ body))) ⊎ IsTold f index body older

-- versions as they come, behind older ones
abbrev pub on_top : List Version → List Version → List Version
on_top [] older = older
on_top (v ∷ vs) older = on_top vs (v ∷ older)

-- a version of the fid is among them
abbrev pub touches : Fid → List Version → Bool
touches f [] = false
touches f (v ∷ vs) = if same_fid v.fid f then true else touches f vs

-- ---- what was told last is what the volume holds

abbrev pub fid_at : ℕ → ℕ → ℕ → Fid
fid_at id n unique = record { volume = id; vnode = n; unique = unique }

-- the version, unless the vnode is gone
abbrev pub live_by : Body → Version → Option Version
live_by bodies.Gone v = None
live_by b v = Some v

abbrev pub live : Option Version → Option Version
live None = None
live (Some v) = live_by v.body v

-- Each vnode is what the last version of its fid says, and no other fid has a version but as one that is gone. No version was
-- told of a unique number to come.
pub record Agrees (id : ℕ) (v : Volume) (told : List Version) : Type 0 where
  pub held : (n unique : ℕ) → live (last_told (fid_at id n unique) told) ≡ option_map (version_at id n) (if_unique unique (get n v.vnodes))
  pub unseen : (n unique : ℕ) → v.next ≤ unique → last_told (fid_at id n unique) told ≡ None

-- ---- how a version follows the last one of its fid

-- the data version rises by one with the body, and may do so where the body is as it was
abbrev pub RaisesData : Version → Version → Type 0
RaisesData last v = (v.data_version ≡ last.data_version + 1) ⊎ ((v.data_version ≡ last.data_version) × (v.body ≡ last.body))

-- The first version of a fid has index and data version 1; each later one has the next index; none comes after the one that is gone.
abbrev pub Follows : Option Version → Version → Type 0
Follows None v = (v.index ≡ 1) × (v.data_version ≡ 1)
Follows (Some last) v = (last.body ≡ bodies.Gone → ⊥) × ((v.index ≡ last.index + 1) × RaisesData last v)

-- each is of the volume, and follows the last one told of its fid
abbrev pub AreNext : ℕ → List Version → List Version → Type 0
AreNext id [] told = Unit {0}
AreNext id (v ∷ vs) told = (v.fid.volume ≡ id) × (Follows (last_told v.fid told) v × AreNext id vs (v ∷ told))
