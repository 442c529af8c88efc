-- What a server keeps of its replies, and sends again.
use Rattle.std.specs.Prelude.{◌≡◌, ℕ, List}
use Rattle.afs_num.specs.declared.messages.Message.{Message}
use Rattle.afs_num.specs.declared.types.Head.{Head}
use Rattle.spec_rows.specs.Callbacks as row
use Rattle.spec_rows.specs.Callbacks.{held_under, is_seat_of, key_answered, repeats_by}
use Rattle.spec_rows.specs.ServerRow.{seat_for}
use Rattle.spec_rows.specs.States.{Backs, Lasting, Seat}
use Rattle.spec_model.specs.Calls.{call_seat, call_seated}
use Rattle.afs_message.specs.Spelled.{Spells}

-- a kept reply is asked again
abbrev pub repeated_turn : Message → Lasting → Backs → row.CallbackStep
repeated_turn reply l b = repeats_by b reply (held_under (key_answered reply) b.held) (is_seat_of reply (call_seat reply.head.to l.kept))

-- these bytes are kept as the reply to the call of this header
abbrev pub KeepsReply : Head → List ℕ → List Seat → List Seat → Type 0
KeepsReply head bytes old new = (m : Message) → Spells m bytes → new ≡ call_seated (seat_for head m) old
