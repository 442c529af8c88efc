-- What a server reads from its disk stands for what is there: nothing is lost by reading kept replies as messages.
use Rattle.std.specs.Prelude.{◌≡◌, ℕ, List, Option, Some}
use Rattle.std.specs.List.{AllByRecursion}
use Rattle.afs_num.specs.declared.types.Node.{Node}
use Rattle.afs_num.specs.declared.messages.Message.{Message}
use Rattle.spec_ideal.specs.Tables.{AscendsFrom}
use Rattle.spec_model.specs.Calls.{call_seat}
use Rattle.spec_model.specs.Messages.{spelled}
use Rattle.afs_xdr.specs.Words.{IsBytes}
use Rattle.spec_records.specs.Durable.{Durable, Kept}
use Rattle.spec_rows.specs.States.{durable_of, Seat}
use Rattle.afs_message.specs.Spelled.{reply_in}
use Rattle.afs_sharing.specs.Lasting.{lasting_of, KeepsForNodes}

-- Bytes that are read as a kept reply are its spelling. (Numbers that are no bytes can be read too, and are none's.)
abbrev pub KeptAreSpelled : Type 0
KeptAreSpelled = (bytes : List ℕ) (m : Message) → IsBytes bytes → reply_in (Some bytes) ≡ Some m → bytes ≡ spelled m

-- what is kept as a reply is bytes
abbrev pub KeepsBytes : Durable → Type 0
KeepsBytes d = AllByRecursion (λ (p : ℕ × Kept). IsBytes p.1.reply) d.kept

-- each caller's reply was read
abbrev pub AreReplied : List Seat → Type 0
AreReplied seats = (n : Node) (seat : Seat) → call_seat n seats ≡ Some seat → (m : Message) × (seat.reply ≡ Some m)

-- Where each kept reply is that of a message, what was read from a disk is put there as it was. That it is one is so in each run:
-- there a disk keeps of a caller the reply to its last call that changed something.
abbrev pub KeptAgain : Type 0
KeptAgain = (d : Durable) → AscendsFrom 0 d.kept → KeepsForNodes d → KeepsBytes d → AreReplied (lasting_of d).kept → durable_of (lasting_of d) ≡ d
