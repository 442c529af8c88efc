-- The calls and replies of any interface, by its two tables: how they are spelled, and how bytes are read as one.
-- A call is a header, its user and its fields; a reply a header, a code and, exactly where that is 0, its fields.
-- Where something is read from bytes, `.0` is what was read, and `.1` are the bytes behind it.
use Rattle.std.specs.Prelude.{◌≡◌, ℕ, ◌≤◌, List, [], ◌++◌, length, Bool, true, false, Option, Some, None, Result, Ok, Err, ℤ, IsSome, FitsSigned, if◌then◌else◌}
use Rattle.std.specs.Int.{w32}
use Rattle.afs_num.specs.declared.types.Half.{Half}
use Rattle.afs_num.specs.declared.types.Half.TheVariants as halves
use Rattle.afs_num.specs.declared.types.Head.{Head}
use Rattle.afs_num.specs.declared.types.Code.{Code}
use Rattle.afs_xdr.specs.declared.faults.XdrFault.{XdrFault}
use Rattle.afs_xdr.specs.declared.faults.XdrFault.TheVariants.{BadHead}
use Rattle.afs_xdr.specs.Words.{word, words, opaque, opaque_at}
use Rattle.spec_shape.specs.declared.faults.ShapeFault.{ShapeFault}
use Rattle.spec_shape.specs.declared.faults.ShapeFault.TheVariants as faults
use Rattle.spec_shape.specs.declared.kinds.Field.{Field}
use Rattle.spec_shape.specs.Spelling.{fields_spelled}
use Rattle.spec_shape.specs.Reading.{◌>>=◌, in_place, signed_at, fields_to_end_at, GivesShape}
use Rattle.spec_shape.specs.Tables.{kinds_in, AreInRange}
use Rattle.spec_shape.specs.Rows.{MessageTable, table_rows, IsWithin}
use Rattle.spec_shape.specs.Bodies.{row_at, body_at}
use Rattle.spec_model.specs.Heads.{user_limit, head_words, head_at, signed_word, is_zero, IsSoundHead, FitsHead}

-- ---- what has a spelling

-- a header of this half
abbrev pub IsHead : Half → Head → Type 0
IsHead half h = (h.half ≡ half) × FitsHead h

-- a header of this half and opcode, from a node to a node
abbrev pub IsHeadFor : Half → ℕ → Head → Type 0
IsHeadFor half opcode h = IsSoundHead h × (h.half ≡ half) × (h.opcode ≡ opcode)

pub record IsCall {X : Type 0} (table : MessageTable X) (h : Head) (user : List ℕ) (call : X) : Type 0 where
  pub head : IsHead halves.Call h
  pub opcode : h.opcode ≡ (table.row call).opcode
  pub user_fits : length user ≤ user_limit
  pub within : IsWithin table call
  pub in_range : AreInRange (table.row call).fields

-- a reply has fields exactly where its code is 0
abbrev pub IsAnswer : {X : Type 0} → MessageTable X → ℕ → ℤ → Option X → Type 0
IsAnswer table opcode code None = is_zero code ≡ false
IsAnswer table opcode code (Some reply) = (is_zero code ≡ true) × (opcode ≡ (table.row reply).opcode) × IsWithin table reply × AreInRange (table.row reply).fields

-- and here it answers a call that has a row; a node takes a refusal of another call as well
pub record IsReply {X : Type 0} (table : MessageTable X) (h : Head) (code : ℤ) (reply : Option X) : Type 0 where
  pub head : IsHead halves.Reply h
  pub code_fits : FitsSigned w32 code
  pub has_row : IsSome (kinds_in h.opcode (table_rows table))
  pub answer : IsAnswer table h.opcode code reply

-- the opcode of a reply: that of its row, or for a refusal that of any row
abbrev pub IsOpcodeOf : {X : Type 0} → MessageTable X → ℕ → Option X → Type 0
IsOpcodeOf table opcode None = IsSome (kinds_in opcode (table_rows table))
IsOpcodeOf table opcode (Some reply) = opcode ≡ (table.row reply).opcode

-- what can be answered: a reply exactly where the code is 0, within the limits of its row
abbrev pub CanAnswer : {X : Type 0} → MessageTable X → ℤ → Option X → Type 0
CanAnswer table code None = is_zero code ≡ false
CanAnswer table code (Some reply) = (is_zero code ≡ true) × IsWithin table reply

-- ---- spelling

-- behind the header: the user, and the fields
abbrev pub call_bytes : {X : Type 0} → MessageTable X → List ℕ → X → List ℕ
call_bytes table user call = opaque user ++ fields_spelled (table.row call).fields

abbrev pub spelled_call : {X : Type 0} → MessageTable X → Head → List ℕ → X → List ℕ
spelled_call table h user call = words (head_words h) ++ call_bytes table user call

abbrev pub answer_fields : {X : Type 0} → MessageTable X → Option X → List Field
answer_fields table None = []
answer_fields table (Some reply) = (table.row reply).fields

-- behind the header: the code, and the fields
abbrev pub reply_bytes : {X : Type 0} → MessageTable X → ℤ → Option X → List ℕ
reply_bytes table code reply = word (signed_word code) ++ fields_spelled (answer_fields table reply)

abbrev pub spelled_reply : {X : Type 0} → MessageTable X → Head → ℤ → Option X → List ℕ
spelled_reply table h code reply = words (head_words h) ++ reply_bytes table code reply

-- these bytes are this call, and nothing more
abbrev pub SpellsCall : {X : Type 0} → MessageTable X → Head → List ℕ → X → List ℕ → Type 0
SpellsCall table h user call bytes = IsCall table h user call × (bytes ≡ spelled_call table h user call)

abbrev pub SpellsReply : {X : Type 0} → MessageTable X → Head → ℤ → Option X → List ℕ → Type 0
SpellsReply table h code reply bytes = IsReply table h code reply × (bytes ≡ spelled_reply table h code reply)

-- ---- reading, to the last byte, with the first fault

-- behind the header of a call of this opcode: its user in place 0, and its fields
unfoldable pub asked_at : {X : Type 0} → MessageTable X → ℕ → List ℕ → Result (List ℕ × X) ShapeFault
asked_at table opcode bytes = do
  ks ← row_at table opcode
  user ← in_place 0 (opaque_at user_limit bytes)
  call ← body_at table opcode ks user.1
  Ok (user.0, call)

-- behind a code of 0 stands the reply; behind any other nothing, whatever was called: so a call that has no row can be
-- refused too
unfoldable pub answer_at : {X : Type 0} → MessageTable X → ℕ → Bool → List ℕ → Result (Option X) ShapeFault
answer_at table opcode true bytes = do
  ks ← row_at table opcode
  reply ← body_at table opcode ks bytes
  Ok (Some reply)
answer_at table opcode false bytes = do
  nothing ← fields_to_end_at [] bytes
  Ok None

-- behind the header of a reply to a call of this opcode: the code in place 0, and what stands behind it
unfoldable pub replied_at : {X : Type 0} → MessageTable X → ℕ → List ℕ → Result (ℤ × Option X) ShapeFault
replied_at table opcode bytes = do
  code ← in_place 0 (signed_at bytes)
  reply ← answer_at table opcode (is_zero code.0) code.1
  Ok (code.0, reply)

abbrev pub same_half : Half → Half → Bool
same_half halves.Call halves.Call = true
same_half halves.Reply halves.Reply = true
same_half halves.Boot halves.Boot = true
same_half _ _ = false

abbrev pub in_head : {A : Type 0} → Result A XdrFault → Result A ShapeFault
in_head (Ok x) = Ok x
in_head (Err f) = Err (faults.Head f)

-- a header of this half, and the bytes behind it
unfoldable pub half_head_at : Half → List ℕ → Result (Head × List ℕ) ShapeFault
half_head_at half bytes = do
  head ← in_head (head_at bytes)
  if same_half head.0.half half then Ok head else Err (faults.Head BadHead)

unfoldable pub call_at : {X : Type 0} → MessageTable X → List ℕ → Result (Head × List ℕ × X) ShapeFault
call_at table bytes = do
  head ← half_head_at halves.Call bytes
  call ← asked_at table head.0.opcode head.1
  Ok (head.0, call.0, call.1)

unfoldable pub reply_at : {X : Type 0} → MessageTable X → List ℕ → Result (Head × ℤ × Option X) ShapeFault
reply_at table bytes = do
  head ← half_head_at halves.Reply bytes
  ks ← row_at table head.0.opcode
  reply ← replied_at table head.0.opcode head.1
  Ok (head.0, reply.0, reply.1)

-- what was read, without the bytes behind it
abbrev pub first_of : {A E : Type 0} → Result (A × List ℕ) E → Result A E
first_of (Ok x) = Ok x.0
first_of (Err e) = Err e

-- ---- what a call of the code gives

-- the result is this value, unless memory ran out
abbrev pub IsValueOrNoMemory : {X : Type 0} → X → Result X ShapeFault → Type 0
IsValueOrNoMemory x (Ok y) = y ≡ x
IsValueOrNoMemory x (Err faults.OutOfMemory) = Unit {0}
IsValueOrNoMemory x (Err _) = ⊥

-- the result is what the bytes are read as, or the first fault in them, unless memory ran out
abbrev pub ReadsCall : {X : Type 0} → MessageTable X → List ℕ → Result (Head × List ℕ × X) ShapeFault → Type 0
ReadsCall table bytes result = GivesShape (λ m. m) (call_at table bytes) result

abbrev pub coded : {X : Type 0} → Head × Code × Option X → Head × ℤ × Option X
coded m = (m.0, m.1.0, m.2)

abbrev pub ReadsReply : {X : Type 0} → MessageTable X → List ℕ → Result (Head × Code × Option X) ShapeFault → Type 0
ReadsReply table bytes result = GivesShape coded (reply_at table bytes) result
