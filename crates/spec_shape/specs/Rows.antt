-- Rows: for each message of an interface one, with its opcode, its fields of their kinds in order, and what makes the
-- message of its fields. The rows of all calls, or of all replies, of an interface are a table.
use Rattle.std.specs.Prelude.{◌≡◌, ℕ, ℤ, List, [], ◌∷◌, Option, Some, None, nat_eq, cond, map, option_map, IsSomeAnd}
use Rattle.afs_num.specs.declared.types.Fid.{Fid}
use Rattle.afs_num.specs.declared.calls.AfsStoreStatus.{AfsStoreStatus}
use Rattle.afs_num.specs.declared.calls.AfsFetchStatus.{AfsFetchStatus}
use Rattle.afs_num.specs.declared.calls.AfsCallBack.{AfsCallBack}
use Rattle.afs_num.specs.declared.calls.AfsVolSync.{AfsVolSync}
use Rattle.afs_num.specs.declared.volume_calls.ListedVolume.{ListedVolume}
use Rattle.afs_num.specs.declared.location_calls.LocEntry.{LocEntry}
use Rattle.spec_shape.specs.declared.kinds.Kind.{Kind}
use Rattle.spec_shape.specs.declared.kinds.Kind.TheVariants as kinds
use Rattle.spec_shape.specs.declared.kinds.Field.{Field}
use Rattle.spec_shape.specs.declared.kinds.Field.TheVariants as fields
use Rattle.spec_shape.specs.Taking.{no_more, taken_behind, word_first, signed_first, volume_kind_first, server_first, fid_first, store_status_first, status_first, callback_first, sync_first, octets_first, fids_first, callbacks_first, statuses_first, volumes_first, entry_first}
use Rattle.spec_shape.specs.Tables.{kinds_in, AreOf}

-- ---- a field of a row: its kind, its value, and how a value of its kind is taken from the front

pub record Slot (A : Type 0) : Type 0 where
  pub kind : Kind
  pub field : Field
  pub first : List Field → Option (A × List Field)

abbrev pub word : ℕ → Slot ℕ
word n = record { kind = kinds.Word; field = fields.Word n; first = word_first }

abbrev pub signed : ℤ → Slot ℤ
signed z = record { kind = kinds.Signed; field = fields.Signed z; first = signed_first }

abbrev pub volume_kind : ℕ → Slot ℕ
volume_kind n = record { kind = kinds.VolumeKind; field = fields.VolumeKind n; first = volume_kind_first }

abbrev pub server : ℕ → Slot ℕ
server n = record { kind = kinds.Server; field = fields.Server n; first = server_first }

abbrev pub fid : Fid → Slot Fid
fid f = record { kind = kinds.Fid; field = fields.Fid f; first = fid_first }

abbrev pub store_status : AfsStoreStatus → Slot AfsStoreStatus
store_status s = record { kind = kinds.StoreStatus; field = fields.StoreStatus s; first = store_status_first }

abbrev pub status : AfsFetchStatus → Slot AfsFetchStatus
status s = record { kind = kinds.FetchStatus; field = fields.FetchStatus s; first = status_first }

abbrev pub callback : AfsCallBack → Slot AfsCallBack
callback c = record { kind = kinds.CallBack; field = fields.CallBack c; first = callback_first }

abbrev pub sync : AfsVolSync → Slot AfsVolSync
sync v = record { kind = kinds.VolSync; field = fields.VolSync v; first = sync_first }

-- at most so many bytes
abbrev pub opaque : ℕ → List ℕ → Slot (List ℕ)
opaque most bytes = record { kind = kinds.Opaque most; field = fields.Opaque bytes; first = octets_first }

-- lists of at most so many
abbrev pub fids : ℕ → List Fid → Slot (List Fid)
fids most fs = record { kind = kinds.Fids most; field = fields.Fids fs; first = fids_first }

abbrev pub callbacks : ℕ → List AfsCallBack → Slot (List AfsCallBack)
callbacks most cs = record { kind = kinds.CallBacks most; field = fields.CallBacks cs; first = callbacks_first }

abbrev pub statuses : ℕ → List AfsFetchStatus → Slot (List AfsFetchStatus)
statuses most ss = record { kind = kinds.Statuses most; field = fields.Statuses ss; first = statuses_first }

abbrev pub volumes : ℕ → List ListedVolume → Slot (List ListedVolume)
volumes most vs = record { kind = kinds.Volumes most; field = fields.Volumes vs; first = volumes_first }

abbrev pub entry : LocEntry → Slot LocEntry
entry e = record { kind = kinds.Entry; field = fields.Entry e; first = entry_first }

-- ---- the fields of a row, one & the next & .. & end: a maker of type F makes a message of their values, of type V

pub record Slots (F V X : Type 0) : Type 0 where
  pub kinds : List Kind
  pub fields : List Field
  pub taken : List Field → Option V
  pub made : F → V → X

abbrev pub end : {X : Type 0} → Slots X (Unit {0}) X
end = record { kinds = []; fields = []; taken = no_more; made = λ x nothing. x }

infixr 10 ◌&◌
abbrev pub ◌&◌ : {A F V X : Type 0} → Slot A → Slots F V X → Slots (A → F) (A × V) X
s & rest = record { kinds = s.kind ∷ rest.kinds; fields = s.field ∷ rest.fields; taken = taken_behind s.first rest.taken; made = λ maker values. rest.made (maker values.0) values.1 }

-- ---- rows and tables

pub record MessageRow (X : Type 0) : Type 0 where
  pub opcode : ℕ
  pub kinds : List Kind
  pub fields : List Field
  pub make : List Field → Option X

abbrev pub numbered : {F V X : Type 0} → ℕ → F → Slots F V X → MessageRow X
numbered opcode maker slots = record { opcode = opcode; kinds = slots.kinds; fields = slots.fields; make = λ fs. option_map (slots.made maker) (slots.taken fs) }

-- the row of each message, and one message of each row, whatever its fields hold
pub record MessageTable (X : Type 0) : Type 0 where
  pub row : X → MessageRow X
  pub each : List X

-- opcode and kinds, row by row
abbrev pub table_rows : {X : Type 0} → MessageTable X → List (ℕ × List Kind)
table_rows table = map (λ x. let r = table.row x in (r.opcode, r.kinds)) table.each

abbrev pub made_in : {X : Type 0} → ℕ → List Field → List (MessageRow X) → Option X
made_in opcode fs [] = None
made_in opcode fs (r ∷ rs) = cond (nat_eq opcode r.opcode) (r.make fs) (made_in opcode fs rs)

-- the message of this opcode with these fields; None where they are those of no such message
abbrev pub message_of : {X : Type 0} → MessageTable X → ℕ → List Field → Option X
message_of table opcode fs = made_in opcode fs (map table.row table.each)

-- ---- interfaces as parts of one

-- the opcodes of a table
abbrev pub opcodes : {X : Type 0} → MessageTable X → List ℕ
opcodes table = map (λ x. (table.row x).opcode) table.each

-- a row of one interface as a row of all
abbrev pub in_interface : {X Y : Type 0} → (X → Y) → MessageRow X → MessageRow Y
in_interface part r = record { opcode = r.opcode; kinds = r.kinds; fields = r.fields; make = λ fs. option_map part (r.make fs) }

-- ---- limits

-- a message within the limits of its row
abbrev pub HasRow : List (ℕ × List Kind) → ℕ → List Field → Type 0
HasRow rows opcode fs = IsSomeAnd (kinds_in opcode rows) (λ ks. AreOf ks fs)

abbrev pub IsWithin : {X : Type 0} → MessageTable X → X → Type 0
IsWithin table x = HasRow (table_rows table) (table.row x).opcode (table.row x).fields

-- ---- which tables are sound

-- a message that the fields make, of this opcode, that has these fields
pub record Made {X : Type 0} (table : MessageTable X) (opcode : ℕ) (made : Option X) (fs : List Field) : Type 0 where
  pub message : X
  pub is : made ≡ Some message
  pub fields_are : (table.row message).fields ≡ fs
  pub opcode_is : (table.row message).opcode ≡ opcode

-- a row's fields of its kinds make a message of that row, and each message is made of its own fields
pub record IsSoundTable {X : Type 0} (table : MessageTable X) : Type 0 where
  pub makes : (opcode : ℕ) (ks : List Kind) (fs : List Field) → kinds_in opcode (table_rows table) ≡ Some ks → AreOf ks fs → Made table opcode (message_of table opcode fs) fs
  pub again : (x : X) → message_of table (table.row x).opcode (table.row x).fields ≡ Some x

-- ---- values for the messages of a table that stand for their rows

abbrev pub no_fid : Fid
no_fid = record { volume = 0; vnode = 0; unique = 0 }

abbrev pub no_store_status : AfsStoreStatus
no_store_status = record { mask = 0; client_mod_time = 0; owner = 0; group = 0; unix_mode_bits = 0; seg_size = 0 }

abbrev pub no_status : AfsFetchStatus
no_status = record {
  interface_version = 0;
  file_type = 0;
  link_count = 0;
  length = 0;
  data_version = 0;
  author = 0;
  owner = 0;
  caller_access = 0;
  anonymous_access = 0;
  unix_mode_bits = 0;
  parent_vnode = 0;
  parent_unique = 0;
  seg_size = 0;
  client_mod_time = 0;
  server_mod_time = 0;
  group = 0;
  sync_counter = 0;
  spare1 = 0;
  spare2 = 0;
  spare3 = 0;
  spare4 = 0;
}

abbrev pub no_callback : AfsCallBack
no_callback = record { version = 0; expiration_time = 0; kind = 0 }

abbrev pub no_sync : AfsVolSync
no_sync = record { release = 0; spare1 = 0; spare2 = 0; spare3 = 0; spare4 = 0; spare5 = 0 }

abbrev pub empty_entry : LocEntry
empty_entry = record { name = []; read_write = 0; read_only = 0; backup = 0; flags = 0; sites = [] }
