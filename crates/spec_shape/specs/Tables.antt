-- Tables of shapes, and what fields have a shape.
use Rattle.std.specs.Prelude.{ℕ, ◌<◌, ◌≤◌, ◌^◌, ◌==◌, List, [], ◌∷◌, length, take, Bool, true, false, Option, find, option_map, FitsSigned}
use Rattle.std.specs.Int.{w32}
use Rattle.std.specs.List.{prefix_len, list_any, AllByRecursion}
use Rattle.afs_xdr.specs.Words.{AreWords}
use Rattle.spec_shape.specs.Spelling.{fid_words, store_status_words, status_words, callback_words, sync_words, listed_volume_words, site_words, entry_words}
use Rattle.spec_shape.specs.Items.{volume_name_limit, site_limit}
use Rattle.afs_num.specs.declared.volume_calls.ListedVolume.{ListedVolume}
use Rattle.afs_num.specs.declared.location_calls.LocSite.{LocSite}
use Rattle.afs_num.specs.declared.location_calls.LocEntry.{LocEntry}
use Rattle.spec_shape.specs.declared.kinds.Kind.{Kind}
use Rattle.spec_shape.specs.declared.kinds.Kind.TheVariants as kinds
use Rattle.spec_shape.specs.declared.kinds.Field.{Field}
use Rattle.spec_shape.specs.declared.kinds.Field.TheVariants as fields

abbrev pub is_field : Kind → Bool
is_field kinds.Nothing = false
is_field _ = true

-- the kinds before the first Nothing
abbrev pub kinds_of : List Kind → List Kind
kinds_of ks = take (prefix_len is_field ks) ks

-- the kinds of the row of this opcode
abbrev pub kinds_in : ℕ → List (ℕ × List Kind) → Option (List Kind)
kinds_in opcode rows = option_map (λ r. r.1) (find (λ r. r.0 == opcode) rows)

-- whether a number stands in a list
abbrev pub is_among : List ℕ → ℕ → Bool
is_among ns n = list_any (λ m. m == n) ns

-- a count of at most so many, and a word
abbrev pub IsCount : ℕ → ℕ → Type 0
IsCount most n = (n ≤ most) × (n < 2 ^ 32)

-- the kind of a volume: read-write, read-only, backup
abbrev pub IsVolumeKind : ℕ → Type 0
IsVolumeKind n = n ≤ 2

-- the number of a server
abbrev pub IsServer : ℕ → Type 0
IsServer n = (1 ≤ n) × (n ≤ 8)

abbrev pub IsListedVolume : ListedVolume → Type 0
IsListedVolume v = IsVolumeKind v.kind

abbrev pub IsSite : LocSite → Type 0
IsSite s = IsServer s.server

pub record IsEntry (e : LocEntry) : Type 0 where
  pub name : IsCount volume_name_limit (length e.name)
  pub count : IsCount site_limit (length e.sites)
  pub sites : AllByRecursion IsSite e.sites

-- a value of this kind, within its limit
abbrev pub IsOf : Kind → Field → Type 0
IsOf kinds.Word (fields.Word n) = Unit {0}
IsOf kinds.Signed (fields.Signed z) = Unit {0}
IsOf kinds.VolumeKind (fields.VolumeKind n) = IsVolumeKind n
IsOf kinds.Server (fields.Server n) = IsServer n
IsOf kinds.Fid (fields.Fid f) = Unit {0}
IsOf kinds.StoreStatus (fields.StoreStatus s) = Unit {0}
IsOf kinds.FetchStatus (fields.FetchStatus s) = Unit {0}
IsOf kinds.CallBack (fields.CallBack c) = Unit {0}
IsOf kinds.VolSync (fields.VolSync v) = Unit {0}
IsOf (kinds.Opaque most) (fields.Opaque bytes) = IsCount most (length bytes)
IsOf (kinds.Fids most) (fields.Fids fs) = IsCount most (length fs)
IsOf (kinds.CallBacks most) (fields.CallBacks cs) = IsCount most (length cs)
IsOf (kinds.Statuses most) (fields.Statuses ss) = IsCount most (length ss)
IsOf (kinds.Volumes most) (fields.Volumes vs) = IsCount most (length vs) × AllByRecursion IsListedVolume vs
IsOf kinds.Entry (fields.Entry e) = IsEntry e
IsOf _ _ = ⊥

-- values of these kinds, one of each
abbrev pub AreOf : List Kind → List Field → Type 0
AreOf [] [] = Unit {0}
AreOf (k ∷ ks) (f ∷ fs) = IsOf k f × AreOf ks fs
AreOf _ _ = ⊥

-- its numbers are words
abbrev pub IsInRange : Field → Type 0
IsInRange (fields.Word n) = n < 2 ^ 32
IsInRange (fields.Signed z) = FitsSigned w32 z
IsInRange (fields.VolumeKind n) = n < 2 ^ 32
IsInRange (fields.Server n) = n < 2 ^ 32
IsInRange (fields.Fid f) = AreWords (fid_words f)
IsInRange (fields.StoreStatus s) = AreWords (store_status_words s)
IsInRange (fields.FetchStatus s) = AreWords (status_words s)
IsInRange (fields.CallBack c) = AreWords (callback_words c)
IsInRange (fields.VolSync v) = AreWords (sync_words v)
IsInRange (fields.Opaque bytes) = Unit {0}
IsInRange (fields.Fids fs) = AllByRecursion (λ f. AreWords (fid_words f)) fs
IsInRange (fields.CallBacks cs) = AllByRecursion (λ c. AreWords (callback_words c)) cs
IsInRange (fields.Statuses ss) = AllByRecursion (λ s. AreWords (status_words s)) ss
IsInRange (fields.Volumes vs) = AllByRecursion (λ v. AreWords (listed_volume_words v)) vs
IsInRange (fields.Entry e) = AreWords (entry_words e) × AllByRecursion (λ s. AreWords (site_words s)) e.sites

abbrev pub AreInRange : List Field → Type 0
AreInRange fs = AllByRecursion IsInRange fs
