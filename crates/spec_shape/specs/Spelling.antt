-- The one spelling of each field.
use Rattle.std.specs.Prelude.{◌≡◌, ℕ, ◌<◌, ◌^◌, List, [], ◌∷◌, ◌++◌, length}
use Rattle.std.specs.Int.{w32, cast_unsigned}
use Rattle.std.specs.List.{flat_map}
use Rattle.afs_xdr.specs.Words.{word, words, opaque}
use Rattle.afs_num.specs.declared.types.Fid.{Fid}
use Rattle.afs_num.specs.declared.calls.AfsStoreStatus.{AfsStoreStatus}
use Rattle.afs_num.specs.declared.calls.AfsFetchStatus.{AfsFetchStatus}
use Rattle.afs_num.specs.declared.calls.AfsCallBack.{AfsCallBack}
use Rattle.afs_num.specs.declared.calls.AfsVolSync.{AfsVolSync}
use Rattle.afs_num.specs.declared.volume_calls.ListedVolume.{ListedVolume}
use Rattle.afs_num.specs.declared.location_calls.LocSite.{LocSite}
use Rattle.afs_num.specs.declared.location_calls.LocEntry.{LocEntry}
use Rattle.spec_shape.specs.declared.kinds.Field.{Field}
use Rattle.spec_shape.specs.declared.kinds.Field.TheVariants as fields

abbrev pub fid_words : Fid → List ℕ
fid_words f = f.volume ∷ f.vnode ∷ f.unique ∷ []

abbrev pub store_status_words : AfsStoreStatus → List ℕ
store_status_words s = s.mask ∷ s.client_mod_time ∷ s.owner ∷ s.group ∷ s.unix_mode_bits ∷ s.seg_size ∷ []

abbrev pub status_words : AfsFetchStatus → List ℕ
status_words s =
    s.interface_version ∷ s.file_type ∷ s.link_count ∷ s.length ∷ s.data_version ∷ s.author ∷ s.owner
    ∷ s.caller_access ∷ s.anonymous_access ∷ s.unix_mode_bits ∷ s.parent_vnode ∷ s.parent_unique ∷ s.seg_size
    ∷ s.client_mod_time ∷ s.server_mod_time ∷ s.group ∷ s.sync_counter ∷ s.spare1 ∷ s.spare2 ∷ s.spare3 ∷ s.spare4 ∷ []

abbrev pub callback_words : AfsCallBack → List ℕ
callback_words c = c.version ∷ c.expiration_time ∷ c.kind ∷ []

abbrev pub sync_words : AfsVolSync → List ℕ
sync_words v = v.release ∷ v.spare1 ∷ v.spare2 ∷ v.spare3 ∷ v.spare4 ∷ v.spare5 ∷ []

abbrev pub listed_volume_words : ListedVolume → List ℕ
listed_volume_words v = v.volume ∷ v.kind ∷ v.flags ∷ v.release ∷ []

abbrev pub site_words : LocSite → List ℕ
site_words s = s.server ∷ s.flags ∷ []

-- between its name and its sites
abbrev pub entry_words : LocEntry → List ℕ
entry_words e = e.read_write ∷ e.read_only ∷ e.backup ∷ e.flags ∷ []

abbrev pub fid : Fid → List ℕ
fid f = words (fid_words f)

abbrev pub store_status : AfsStoreStatus → List ℕ
store_status s = words (store_status_words s)

abbrev pub status : AfsFetchStatus → List ℕ
status s = words (status_words s)

abbrev pub callback : AfsCallBack → List ℕ
callback c = words (callback_words c)

abbrev pub sync : AfsVolSync → List ℕ
sync v = words (sync_words v)

abbrev pub listed_volume : ListedVolume → List ℕ
listed_volume v = words (listed_volume_words v)

abbrev pub site : LocSite → List ℕ
site s = words (site_words s)

-- a count, and the items
abbrev pub list : {T : Type 0} → (T → List ℕ) → List T → List ℕ
list item xs = word (length xs) ++ flat_map item xs

abbrev pub entry : LocEntry → List ℕ
entry e = opaque e.name ++ (words (entry_words e) ++ list site e.sites)

abbrev pub field_spelled : Field → List ℕ
field_spelled (fields.Word n) = word n
field_spelled (fields.Signed z) = word (cast_unsigned w32 z)
field_spelled (fields.VolumeKind n) = word n
field_spelled (fields.Server n) = word n
field_spelled (fields.Fid f) = fid f
field_spelled (fields.StoreStatus s) = store_status s
field_spelled (fields.FetchStatus s) = status s
field_spelled (fields.CallBack c) = callback c
field_spelled (fields.VolSync v) = sync v
field_spelled (fields.Opaque bytes) = opaque bytes
field_spelled (fields.Fids fs) = list fid fs
field_spelled (fields.CallBacks cs) = list callback cs
field_spelled (fields.Statuses ss) = list status ss
field_spelled (fields.Volumes vs) = list listed_volume vs
field_spelled (fields.Entry e) = entry e

-- the fields, one after the other
abbrev pub fields_spelled : List Field → List ℕ
fields_spelled fs = flat_map field_spelled fs

-- the new bytes begin with the old
abbrev pub Extends : List ℕ → List ℕ → Type 0
Extends old new = (more : List ℕ) × (new ≡ old ++ more)

-- what has a spelling: its counts are words
abbrev pub IsSpellable : Field → Type 0
IsSpellable (fields.Opaque bytes) = length bytes < 2 ^ 32
IsSpellable (fields.Fids fs) = length fs < 2 ^ 32
IsSpellable (fields.CallBacks cs) = length cs < 2 ^ 32
IsSpellable (fields.Statuses ss) = length ss < 2 ^ 32
IsSpellable (fields.Volumes vs) = length vs < 2 ^ 32
IsSpellable (fields.Entry e) = (length e.name < 2 ^ 32) × (length e.sites < 2 ^ 32)
IsSpellable _ = Unit {0}
