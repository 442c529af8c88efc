-- Messages in their spelling, and what is read in the bytes of a kept reply.
use Rattle.std.specs.Prelude.{◌≡◌, ℕ, List, Bool, true, false, Option, Some, None}
use Rattle.afs_num.specs.declared.messages.Message.{Message}
use Rattle.afs_num.specs.declared.messages.Carried.TheVariants.{Notice}
use Rattle.afs_num.specs.declared.messages.Received.{Received}
use Rattle.afs_num.specs.declared.messages.Received.TheVariants.{Whole}
use Rattle.afs_num.specs.declared.types.Head.{Head}
use Rattle.spec_model.specs.Messages as messages
use Rattle.spec_model.specs.Messages.{received}

-- the bytes are the spelling of this message, and are read as it
pub record Spells (m : Message) (bytes : List ℕ) : Type 0 where
  pub spelled : bytes ≡ messages.spelled m
  pub read : received bytes ≡ Whole m

abbrev pub is_whole : Received → Bool
is_whole (Whole m) = true
is_whole r = false

abbrev pub message_in : Received → Option Message
message_in (Whole m) = Some m
message_in r = None

abbrev pub reply_in : Option (List ℕ) → Option Message
reply_in None = None
reply_in (Some bytes) = message_in (received bytes)

abbrev pub IsSpelling : List ℕ → Type 0
IsSpelling bytes = (m : Message) × Spells m bytes

-- ---- a message in its spelling

-- the message that is read; the bytes are always one
abbrev pub message_read : Head → Received → Message
message_read head (Whole m) = m
message_read head r = record { head = head; carried = Notice }

-- the bytes spell a message with this header
pub record IsMessage (head : Head) (bytes : List ℕ) : Type 0 where
  pub message : Message
  pub headed : message.head ≡ head
  pub spells : Spells message bytes
