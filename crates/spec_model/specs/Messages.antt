-- The spelling of messages, and what a node reads in the bytes that it is given.
-- A message is a header; then a call has its user and its fields, a reply its code and, exactly where that is 0, its
-- fields, a boot notice nothing.
-- Where something is read from bytes, `.0` is what was read, and `.1` are the bytes behind it.
use Rattle.std.specs.Prelude.{◌≡◌, ◌≤◌, ℕ, length, FitsSigned, List, [], ◌∷◌, ◌++◌, false, Option, Some, None, Result, Ok, Err, ℤ, pos, if◌then◌else◌}
use Rattle.std.specs.Int.{w32}
use Rattle.afs_num.specs.declared.types.Half.{Half}
use Rattle.afs_num.specs.declared.types.Half.TheVariants as halves
use Rattle.afs_num.specs.declared.types.Head.{Head}
use Rattle.afs_num.specs.declared.types.Parcel.{Parcel}
use Rattle.afs_num.specs.declared.messages.Call.{Call}
use Rattle.afs_num.specs.declared.messages.Reply.{Reply}
use Rattle.afs_num.specs.declared.messages.Carried.{Carried}
use Rattle.afs_num.specs.declared.messages.Carried.TheVariants as carried
use Rattle.afs_num.specs.declared.messages.Message.{Message}
use Rattle.afs_num.specs.declared.messages.Received.{Received}
use Rattle.afs_num.specs.declared.messages.Received.TheVariants.{Nothing, Unserved, Unreadable, Whole}
use Rattle.afs_xdr.specs.declared.faults.XdrFault.{XdrFault}
use Rattle.afs_xdr.specs.declared.faults.XdrFault.TheVariants.{BadHead}
use Rattle.afs_xdr.specs.Words.{words, AreWords}
use Rattle.spec_shape.specs.declared.faults.ShapeFault.{ShapeFault}
use Rattle.spec_shape.specs.declared.faults.ShapeFault.TheVariants as faults
use Rattle.spec_shape.specs.declared.kinds.Field.{Field}
use Rattle.spec_shape.specs.Reading.{fields_to_end_at}
use Rattle.spec_shape.specs.Tables.{is_among, AreInRange}
use Rattle.spec_shape.specs.Rows.{IsWithin}
use Rattle.spec_model.specs.Heads.{user_limit, head_words, head_at, is_zero, IsSoundHead}
use Rattle.spec_model.specs.Rpc.{call_bytes, reply_bytes, asked_at, replied_at}
use Rattle.spec_model.specs.CellRows.{cell_calls, cell_replies, call_number, call_fields, reply_number, reply_fields, all_calls}

-- ---- spelling

abbrev pub carried_bytes : Carried → List ℕ
carried_bytes (carried.Call user call) = call_bytes cell_calls user call
carried_bytes (carried.Refusal code) = reply_bytes cell_replies code.0 None
carried_bytes (carried.Reply reply) = reply_bytes cell_replies (pos 0) (Some reply)
carried_bytes carried.Notice = []

-- the one spelling of a message
unfoldable pub spelled : Message → List ℕ
spelled m = words (head_words m.head) ++ carried_bytes m.carried

-- ---- what a node receives, by its half, where this was read behind the header

-- behind the header of a call no other fault comes than one in its user or its fields
abbrev pub received_call : Head → Result (List ℕ × Call) ShapeFault → Received
received_call head (Ok call) = Whole (record { head = head; carried = carried.Call call.0 call.1 })
received_call head (Err e) = Unreadable head

-- a call that isn't among those served is told by its header, whatever stands behind it
abbrev pub called_at : List ℕ → Head → List ℕ → Received
called_at served head bytes =
    if is_among served head.opcode then received_call head (asked_at cell_calls head.opcode bytes) else Unserved head

abbrev pub carried_reply : ℤ → Option Reply → Carried
carried_reply code (Some reply) = carried.Reply reply
carried_reply code None = carried.Refusal (record { 0 = code })

-- a reply or a notice that can't be read is no message
abbrev pub received_reply : Head → Result (ℤ × Option Reply) ShapeFault → Received
received_reply head (Ok reply) = Whole (record { head = head; carried = carried_reply reply.0 reply.1 })
received_reply head (Err e) = Nothing

abbrev pub received_notice : Head → Result (List Field) ShapeFault → Received
received_notice head (Ok nothing) = Whole (record { head = head; carried = carried.Notice })
received_notice head (Err e) = Nothing

abbrev pub read_body : List ℕ → Head → Half → List ℕ → Received
read_body served head halves.Call bytes = called_at served head bytes
read_body served head halves.Reply bytes = received_reply head (replied_at cell_replies head.opcode bytes)
read_body served head halves.Boot bytes = received_notice head (fields_to_end_at [] bytes)

abbrev pub read_behind_head : List ℕ → Result (Head × List ℕ) XdrFault → Received
read_behind_head served (Ok h) = read_body served h.0 h.0.half h.1
read_behind_head served (Err e) = Nothing

-- what a node finds in these bytes that serves calls of these opcodes
unfoldable pub received_by : List ℕ → List ℕ → Received
received_by served bytes = read_behind_head served (head_at bytes)

-- and what stands in them, whoever serves it
abbrev pub received : List ℕ → Received
received bytes = received_by all_calls bytes

-- ---- which messages have a spelling

-- under the half and the opcode of its header, and within the limits of its row
abbrev pub IsSoundCarried : Half → ℕ → Carried → Type 0
IsSoundCarried half opcode (carried.Call user call) =
    (half ≡ halves.Call) × (opcode ≡ call_number call) × (length user ≤ user_limit) × IsWithin cell_calls call
IsSoundCarried half opcode (carried.Refusal code) = (half ≡ halves.Reply) × (is_zero code.0 ≡ false)
IsSoundCarried half opcode (carried.Reply reply) =
    (half ≡ halves.Reply) × (opcode ≡ reply_number reply) × IsWithin cell_replies reply
IsSoundCarried half opcode carried.Notice = half ≡ halves.Boot

abbrev pub HasSpelling : Message → Type 0
HasSpelling m = IsSoundHead m.head × IsSoundCarried m.head.half m.head.opcode m.carried

-- the numbers of what is carried are words
abbrev pub IsInRange : Carried → Type 0
IsInRange (carried.Call user call) = AreInRange (call_fields call)
IsInRange (carried.Refusal code) = FitsSigned w32 code.0
IsInRange (carried.Reply reply) = AreInRange (reply_fields reply)
IsInRange carried.Notice = Unit {0}

-- a message within its limits: it has a spelling
pub record FitsMessage (m : Message) : Type 0 where
  pub sound : HasSpelling m
  pub numbers : AreWords (head_words m.head)
  pub in_range : IsInRange m.carried

-- what is found in bytes is sound
abbrev pub IsSoundReceived : Received → Type 0
IsSoundReceived Nothing = Unit {0}
IsSoundReceived (Unserved head) = IsSoundHead head
IsSoundReceived (Unreadable head) = IsSoundHead head
IsSoundReceived (Whole m) = HasSpelling m

-- what a node finds in the bytes of a message that serves these calls: the message, or that it doesn't serve this call
pub data FoundBy (served : List ℕ) (m : Message) (found : Received) : Type 0 where
  is_whole : found ≡ Whole m → FoundBy served m found
  is_unserved : (user : List ℕ) (call : Call) → m.carried ≡ carried.Call user call → is_among served (call_number call) ≡ false → found ≡ Unserved m.head → FoundBy served m found

-- so it is of every message that stands in these bytes
abbrev pub FindsMessages : List ℕ → List ℕ → Type 0
FindsMessages served bytes = (m : Message) → received bytes ≡ Whole m → FoundBy served m (received_by served bytes)

-- ---- messages under way, as bytes and as values

-- these parcels carry these messages: the bytes of each are its message's spelling and are read as that message, whose
-- header stands beside them
abbrev pub parcels_read : List Parcel → List (Head × List ℕ × Received)
parcels_read [] = []
parcels_read (p ∷ ps) = (p.head, p.bytes, received p.bytes) ∷ parcels_read ps

abbrev pub messages_spelled : List Message → List (Head × List ℕ × Received)
messages_spelled [] = []
messages_spelled (m ∷ ms) = (m.head, spelled m, Whole m) ∷ messages_spelled ms
