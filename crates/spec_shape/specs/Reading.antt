-- Reading the fields of a message from left to right, with the first that is bad.
use Rattle.std.specs.Prelude.{◌≡◌, ℕ, ℤ, ◌+◌, List, [], ◌∷◌, length, Result, Ok, Err}
use Rattle.std.specs.Int.{w32, cast_signed}
use Rattle.afs_xdr.specs.declared.faults.XdrFault.{XdrFault}
use Rattle.afs_xdr.specs.declared.faults.XdrFault.TheVariants.{BadType}
use Rattle.afs_xdr.specs.Reading.{Reading}
use Rattle.afs_xdr.specs.Words.{word_at, opaque_at, end_at}
use Rattle.spec_shape.specs.Items.{fid_at, store_status_at, status_at, callback_at, sync_at, list_at, volume_kind_at, server_at, listed_volume_at, entry_at}
use Rattle.spec_shape.specs.declared.faults.FieldFault.{FieldFault}
use Rattle.spec_shape.specs.declared.faults.FieldFault.TheVariants as causes
use Rattle.spec_shape.specs.declared.faults.ShapeFault.{ShapeFault}
use Rattle.spec_shape.specs.declared.faults.ShapeFault.TheVariants as faults
use Rattle.spec_shape.specs.declared.kinds.Kind.{Kind}
use Rattle.spec_shape.specs.declared.kinds.Kind.TheVariants as kinds
use Rattle.spec_shape.specs.declared.kinds.Field.{Field}
use Rattle.spec_shape.specs.declared.kinds.Field.TheVariants as fields

abbrev pub fault_of_field : ℕ → FieldFault → ShapeFault
fault_of_field place (causes.Xdr f) = faults.Field place f
fault_of_field place causes.OutOfMemory = faults.OutOfMemory

infixl 10 ◌>>=◌
abbrev pub ◌>>=◌ : {A B E : Type 0} → Result A E → (A → Result B E) → Result B E
(Ok x) >>= f = f x
(Err e) >>= f = Err e

-- what is read becomes a field by this constructor
abbrev pub read_as : {A B E : Type 0} → (A → B) → Result (A × List ℕ) E → Result (B × List ℕ) E
read_as f (Ok x) = Ok (f x.0, x.1)
read_as f (Err e) = Err e

unfoldable pub signed_at : List ℕ → Result (ℤ × List ℕ) XdrFault
signed_at bytes = do
  n ← word_at bytes
  Ok (cast_signed w32 n.0, n.1)

-- a field of this kind. None is of the kind Nothing
unfoldable pub field_at : Kind → List ℕ → Result (Field × List ℕ) XdrFault
field_at kinds.Nothing bytes = Err BadType
field_at kinds.Word bytes = read_as fields.Word (word_at bytes)
field_at kinds.Signed bytes = read_as fields.Signed (signed_at bytes)
field_at kinds.VolumeKind bytes = read_as fields.VolumeKind (volume_kind_at bytes)
field_at kinds.Server bytes = read_as fields.Server (server_at bytes)
field_at kinds.Fid bytes = read_as fields.Fid (fid_at bytes)
field_at kinds.StoreStatus bytes = read_as fields.StoreStatus (store_status_at bytes)
field_at kinds.FetchStatus bytes = read_as fields.FetchStatus (status_at bytes)
field_at kinds.CallBack bytes = read_as fields.CallBack (callback_at bytes)
field_at kinds.VolSync bytes = read_as fields.VolSync (sync_at bytes)
field_at (kinds.Opaque most) bytes = read_as fields.Opaque (opaque_at most bytes)
field_at (kinds.Fids most) bytes = read_as fields.Fids (list_at fid_at most bytes)
field_at (kinds.CallBacks most) bytes = read_as fields.CallBacks (list_at callback_at most bytes)
field_at (kinds.Statuses most) bytes = read_as fields.Statuses (list_at status_at most bytes)
field_at (kinds.Volumes most) bytes = read_as fields.Volumes (list_at listed_volume_at most bytes)
field_at kinds.Entry bytes = read_as fields.Entry (entry_at bytes)

-- what is read is the field of this place
abbrev pub in_place : {A : Type 0} → ℕ → Result A XdrFault → Result A ShapeFault
in_place place (Ok x) = Ok x
in_place place (Err f) = Err (faults.Field place f)

-- fields of these kinds, the first of them in this place of the message
unfoldable pub fields_at : ℕ → List Kind → List ℕ → Result (List Field × List ℕ) ShapeFault
fields_at place [] bytes = Ok ([], bytes)
fields_at place (k ∷ ks) bytes = do
  first ← in_place place (field_at k bytes)
  others ← fields_at (place + 1) ks first.1
  Ok (first.0 ∷ others.0, others.1)

-- the fields of these kinds behind what stands in place 0, and nothing behind the last
unfoldable pub fields_to_end_at : List Kind → List ℕ → Result (List Field) ShapeFault
fields_to_end_at ks bytes = do
  fs ← fields_at 1 ks bytes
  nothing ← in_place (length fs.0 + 1) (end_at fs.1)
  Ok fs.0

-- What a call returned, seen by view, is what this reading of the bytes left gives, unless memory ran out.
abbrev pub ReadsField : {X Y : Type 0} → (List ℕ → Result (Y × List ℕ) XdrFault) → (X → Y) → Reading → Reading → Result X FieldFault → Type 0
ReadsField read view old new (Ok x) = read old.left ≡ Ok (view x, new.left)
ReadsField read view old new (Err causes.OutOfMemory) = Unit {0}
ReadsField read view old new (Err (causes.Xdr f)) = read old.left ≡ Err f

abbrev pub ReadsShape : {X Y : Type 0} → (List ℕ → Result (Y × List ℕ) ShapeFault) → (X → Y) → Reading → Reading → Result X ShapeFault → Type 0
ReadsShape read view old new (Ok x) = read old.left ≡ Ok (view x, new.left)
ReadsShape read view old new (Err faults.OutOfMemory) = Unit {0}
ReadsShape read view old new (Err (faults.Head f)) = read old.left ≡ Err (faults.Head f)
ReadsShape read view old new (Err (faults.NoRow n)) = read old.left ≡ Err (faults.NoRow n)
ReadsShape read view old new (Err (faults.Field i f)) = read old.left ≡ Err (faults.Field i f)

-- The result, seen by view, is what was read, unless memory ran out.
abbrev pub GivesShape : {X Y : Type 0} → (X → Y) → Result Y ShapeFault → Result X ShapeFault → Type 0
GivesShape view read (Ok x) = read ≡ Ok (view x)
GivesShape view read (Err faults.OutOfMemory) = Unit {0}
GivesShape view read (Err (faults.Head f)) = read ≡ Err (faults.Head f)
GivesShape view read (Err (faults.NoRow n)) = read ≡ Err (faults.NoRow n)
GivesShape view read (Err (faults.Field i f)) = read ≡ Err (faults.Field i f)
