-- What the program keeps of a run, and the history that this tells. It keeps the parcels that were sent, each with the
-- bytes of its message, and entries that say how many of them are theirs.
use Rattle.std.specs.Prelude.{◌≡◌, ℕ, List, [], ◌∷◌, Result, Ok, Err, ℤ, pos, drop}
use Rattle.afs_num.specs.declared.types.Parcel.{Parcel}
use Rattle.afs_num.specs.declared.messages.Message.{Message}
use Rattle.afs_num.specs.declared.messages.Received.{Received}
use Rattle.afs_num.specs.declared.messages.Received.TheVariants.{Whole}
use Rattle.afs_xdr.specs.declared.faults.XdrFault.{XdrFault}
use Rattle.spec_shape.specs.Reading.{signed_at}
use Rattle.spec_model.specs.Messages.{received, parcels_read, messages_spelled}

abbrev pub with_received : Received → List Message → List Message
with_received (Whole m) ms = m ∷ ms
with_received r ms = ms

-- the messages that are read in these parcels
abbrev pub messages_of : List Parcel → List Message
messages_of [] = []
messages_of (p ∷ ps) = with_received (received p.bytes) (messages_of ps)

-- all parcels are the spellings of messages, and are read as these
abbrev pub AreRead : List Parcel → Type 0
AreRead ps = parcels_read ps ≡ messages_spelled (messages_of ps)

-- the code of a reply is its first word behind the header, which has 32 bytes
abbrev pub code_read : Result (ℤ × List ℕ) XdrFault → ℤ
code_read (Ok r) = r.0
code_read (Err e) = pos 0

unfoldable pub code_at : List ℕ → ℤ
code_at bytes = code_read (signed_at (drop 32 bytes))
