-- Messages that go out, as they are sent.
use Rattle.std.specs.Prelude.{List, [], ◌∷◌}
use Rattle.afs_num.specs.declared.messages.Message.{Message}
use Rattle.afs_num.specs.declared.types.Parcel.{Parcel}
use Rattle.spec_model.specs.Messages.{received}
use Rattle.afs_message.specs.Spelled.{message_read, IsMessage}

-- the message that its bytes spell
abbrev pub parcel_message : Parcel → Message
parcel_message p = message_read p.head (received p.bytes)

-- each of them spells a message with its header
abbrev pub AreMessages : List Parcel → Type 0
AreMessages [] = Unit {0}
AreMessages (p ∷ ps) = IsMessage p.head p.bytes × AreMessages ps
