-- Laws about the spelling of messages.
use Rattle.afs_xdr.specs.Words.{IsBytes}
use Rattle.std.specs.Prelude.{◌≡◌, ◌↔◌, ℕ, pos, List, [], ◌++◌, Some, None, IsSome}
use Rattle.afs_num.specs.declared.types.Head.{Head}
use Rattle.afs_num.specs.declared.types.Code.{Code}
use Rattle.afs_num.specs.declared.messages.Call.{Call}
use Rattle.afs_num.specs.declared.messages.Reply.{Reply}
use Rattle.afs_num.specs.declared.messages.Carried.TheVariants as carried
use Rattle.afs_num.specs.declared.messages.Message.{Message}
use Rattle.afs_num.specs.declared.messages.Received.TheVariants.{Whole}
use Rattle.spec_shape.specs.declared.kinds.Kind.{Kind}
use Rattle.spec_shape.specs.declared.kinds.Field.{Field}
use Rattle.spec_shape.specs.Tables.{kinds_in, AreOf}
use Rattle.spec_shape.specs.Rows.{message_of}
use Rattle.spec_model.specs.Rpc.{SpellsCall, SpellsReply}
use Rattle.spec_model.specs.CellRows.{call_rows, reply_rows, cell_calls, cell_replies, call_number, reply_number, interface_of, interface_of_reply}
use Rattle.spec_model.specs.Messages.{FitsMessage, spelled, received, FindsMessages}

-- what is spelled is read again
abbrev pub SpelledAreRead : Type 0
SpelledAreRead = (m : Message) → FitsMessage m → received (spelled m) ≡ Whole m

-- no message's spelling begins another's
abbrev pub SpellingsDontBegin : Type 0
SpellingsDontBegin = (m n : Message) (rest : List ℕ) → FitsMessage m → FitsMessage n → spelled m ++ rest ≡ spelled n → (m ≡ n) × (rest ≡ [])

-- a message that is read in bytes is one with a spelling, and they are its spelling
abbrev pub ReadAreSpelled : Type 0
ReadAreSpelled = (bytes : List ℕ) (m : Message) → IsBytes bytes → received bytes ≡ Whole m → (spelled m ≡ bytes) × FitsMessage m

-- a node that serves some of the calls finds each message in the bytes that any node finds there: whole, or, where it is a call that the
-- node doesn't serve, as such
abbrev pub MessagesAreFound : Type 0
MessagesAreFound = (served bytes : List ℕ) → IsBytes bytes → FindsMessages served bytes

-- a call is found in bytes exactly where they spell it
abbrev pub CallsAreFound : Type 0
CallsAreFound = (bytes : List ℕ) (h : Head) (user : List ℕ) (call : Call) → IsBytes bytes →
    SpellsCall cell_calls h user call bytes ↔ (received bytes ≡ Whole (record { head = h; carried = carried.Call user call }))

-- and so is a reply with code 0
abbrev pub RepliesAreFound : Type 0
RepliesAreFound = (bytes : List ℕ) (h : Head) (reply : Reply) → IsBytes bytes →
    SpellsReply cell_replies h (pos 0) (Some reply) bytes ↔ (received bytes ≡ Whole (record { head = h; carried = carried.Reply reply }))

-- and a refusal of a call that has a row
abbrev pub RefusalsAreFound : Type 0
RefusalsAreFound = (bytes : List ℕ) (h : Head) (code : Code) → IsBytes bytes → IsSome (kinds_in h.opcode reply_rows) →
    SpellsReply cell_replies h code.0 None bytes ↔ (received bytes ≡ Whole (record { head = h; carried = carried.Refusal code }))

-- fields of a row's kinds always make its call, and its reply
abbrev pub RowsMakeCalls : Type 0
RowsMakeCalls = (opcode : ℕ) (ks : List Kind) (fs : List Field) → kinds_in opcode call_rows ≡ Some ks → AreOf ks fs → IsSome (message_of cell_calls opcode fs)

abbrev pub RowsMakeReplies : Type 0
RowsMakeReplies = (opcode : ℕ) (ks : List Kind) (fs : List Field) → kinds_in opcode reply_rows ≡ Some ks → AreOf ks fs → IsSome (message_of cell_replies opcode fs)

-- no two interfaces share an opcode: it tells the interface of a call, and of a reply
abbrev pub CallsHaveOneInterface : Type 0
CallsHaveOneInterface = (a b : Call) → call_number a ≡ call_number b → interface_of a ≡ interface_of b

abbrev pub RepliesHaveOneInterface : Type 0
RepliesHaveOneInterface = (a b : Reply) → reply_number a ≡ reply_number b → interface_of_reply a ≡ interface_of_reply b

-- and a reply's is that of its call
abbrev pub RepliesAreOfTheirCalls : Type 0
RepliesAreOfTheirCalls = (call : Call) (reply : Reply) → call_number call ≡ reply_number reply → interface_of call ≡ interface_of_reply reply
