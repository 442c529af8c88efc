-- Taking fields from the front, each as what its kind says.
use Rattle.std.specs.Prelude.{ℕ, ℤ, List, [], ◌∷◌, Option, Some, None}
use Rattle.afs_num.specs.declared.types.Fid.{Fid}
use Rattle.afs_num.specs.declared.calls.AfsStoreStatus.{AfsStoreStatus}
use Rattle.afs_num.specs.declared.calls.AfsFetchStatus.{AfsFetchStatus}
use Rattle.afs_num.specs.declared.calls.AfsCallBack.{AfsCallBack}
use Rattle.afs_num.specs.declared.calls.AfsVolSync.{AfsVolSync}
use Rattle.afs_num.specs.declared.volume_calls.ListedVolume.{ListedVolume}
use Rattle.afs_num.specs.declared.location_calls.LocEntry.{LocEntry}
use Rattle.spec_shape.specs.declared.kinds.Field.{Field}
use Rattle.spec_shape.specs.declared.kinds.Field.TheVariants as fields

infixl 10 ◌>>=◌
abbrev pub ◌>>=◌ : {A B : Type 0} → Option A → (A → Option B) → Option B
(Some x) >>= f = f x
None >>= f = None

abbrev pub word_first : List Field → Option (ℕ × List Field)
word_first (fields.Word x ∷ fs) = Some (x, fs)
word_first _ = None

abbrev pub signed_first : List Field → Option (ℤ × List Field)
signed_first (fields.Signed x ∷ fs) = Some (x, fs)
signed_first _ = None

abbrev pub volume_kind_first : List Field → Option (ℕ × List Field)
volume_kind_first (fields.VolumeKind x ∷ fs) = Some (x, fs)
volume_kind_first _ = None

abbrev pub server_first : List Field → Option (ℕ × List Field)
server_first (fields.Server x ∷ fs) = Some (x, fs)
server_first _ = None

abbrev pub fid_first : List Field → Option (Fid × List Field)
fid_first (fields.Fid x ∷ fs) = Some (x, fs)
fid_first _ = None

abbrev pub store_status_first : List Field → Option (AfsStoreStatus × List Field)
store_status_first (fields.StoreStatus x ∷ fs) = Some (x, fs)
store_status_first _ = None

abbrev pub status_first : List Field → Option (AfsFetchStatus × List Field)
status_first (fields.FetchStatus x ∷ fs) = Some (x, fs)
status_first _ = None

abbrev pub callback_first : List Field → Option (AfsCallBack × List Field)
callback_first (fields.CallBack x ∷ fs) = Some (x, fs)
callback_first _ = None

abbrev pub sync_first : List Field → Option (AfsVolSync × List Field)
sync_first (fields.VolSync x ∷ fs) = Some (x, fs)
sync_first _ = None

abbrev pub octets_first : List Field → Option (List ℕ × List Field)
octets_first (fields.Opaque x ∷ fs) = Some (x, fs)
octets_first _ = None

abbrev pub fids_first : List Field → Option (List Fid × List Field)
fids_first (fields.Fids x ∷ fs) = Some (x, fs)
fids_first _ = None

abbrev pub callbacks_first : List Field → Option (List AfsCallBack × List Field)
callbacks_first (fields.CallBacks x ∷ fs) = Some (x, fs)
callbacks_first _ = None

abbrev pub statuses_first : List Field → Option (List AfsFetchStatus × List Field)
statuses_first (fields.Statuses x ∷ fs) = Some (x, fs)
statuses_first _ = None

abbrev pub volumes_first : List Field → Option (List ListedVolume × List Field)
volumes_first (fields.Volumes x ∷ fs) = Some (x, fs)
volumes_first _ = None

abbrev pub entry_first : List Field → Option (LocEntry × List Field)
entry_first (fields.Entry x ∷ fs) = Some (x, fs)
entry_first _ = None

abbrev pub no_more : List Field → Option (Unit {0})
no_more [] = Some tt
no_more (f ∷ fs) = None

-- the first field, and what is taken from those behind it
unfoldable pub taken_behind : {A V : Type 0} → (List Field → Option (A × List Field)) → (List Field → Option V) → List Field → Option (A × V)
taken_behind first rest fs = do
  x ← first fs
  v ← rest x.1
  Some (x.0, v)
