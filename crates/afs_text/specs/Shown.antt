-- What the text of a history shows of it.
use Rattle.std.specs.Prelude.{◌≡◌, ◌≢◌, ℕ, List, [], ◌∷◌, length, Bool, true, false, Option, Some, None, ℤ}
use Rattle.afs_num.specs.declared.types.Half.{Half}
use Rattle.afs_num.specs.declared.types.Half.TheVariants as halves
use Rattle.afs_num.specs.declared.types.Node.{Node}
use Rattle.afs_num.specs.declared.messages.Message.{Message}
use Rattle.afs_num.specs.declared.histories.Actor.{Actor}
use Rattle.spec_history.specs.declared.lines.Line.{Line}
use Rattle.afs_num.specs.declared.messages.Received.TheVariants.{Whole}
use Rattle.afs_num.specs.declared.types.Parcel.{Parcel}
use Rattle.spec_history.specs.declared.lines.Entry as kept
use Rattle.spec_model.specs.Messages.{received, spelled}
use Rattle.spec_model.specs.Text.{code_carried}
use Rattle.spec_records.specs.Durable.{Durable}
use Rattle.spec_rows.specs.Runs.{Entry}
use Rattle.afs_text.specs.FinalText.{final_text}
use Rattle.afs_text.specs.HistoryText.{history_text, text}
use Rattle.afs_text.specs.KeptText.{kept_history_text}
use Rattle.afs_text.specs.Telling.{sent_by, entries_as_told, AreRead}
use Rattle.afs_text.specs.Whole.{AreWholeEntries}

-- what is shown of a message: all of its header but the boot number and the stamp, of a reply the code, and all its bytes
-- where they are asked for
pub record ShownMessage : Type 0 where
  pub half : Half
  pub from : Node
  pub to : Node
  pub opcode : ℕ
  pub epoch : ℕ
  pub number : ℕ
  pub code : Option ℤ
  pub bytes : Option (List ℕ)

-- what is shown of an entry: all of it but the volumes that it brought, which only set-up does
pub record ShownEntry : Type 0 where
  pub actor : Actor
  pub lines : List Line
  pub sent : List ShownMessage

abbrev pub shown_code : Half → ℤ → Option ℤ
shown_code halves.Reply code = Some code
shown_code half code = None

abbrev pub shown_bytes : Bool → List ℕ → Option (List ℕ)
shown_bytes true bytes = Some bytes
shown_bytes false bytes = None

abbrev pub shown_message : Bool → Message → ShownMessage
shown_message wire m = record {
  half = m.head.half;
  from = m.head.from;
  to = m.head.to;
  opcode = m.head.opcode;
  epoch = m.head.epoch;
  number = m.head.number;
  code = shown_code m.head.half (code_carried m.carried);
  bytes = shown_bytes wire (spelled m);
}

abbrev pub shown_messages : Bool → List Message → List ShownMessage
shown_messages wire [] = []
shown_messages wire (m ∷ ms) = shown_message wire m ∷ shown_messages wire ms

abbrev pub shown_entry : Bool → Entry → ShownEntry
shown_entry wire e = record { actor = e.actor; lines = e.lines; sent = shown_messages wire e.sent }

abbrev pub shown : Bool → List Entry → List ShownEntry
shown wire [] = []
shown wire (e ∷ es) = shown_entry wire e ∷ shown wire es

-- ---- laws

-- two histories with one text show the same
abbrev pub TextsTellEntries : Type 0
TextsTellEntries = (wire : Bool) (a b : List Entry) → AreWholeEntries a → AreWholeEntries b → history_text wire a ≡ history_text wire b → shown wire a ≡ shown wire b

-- so do two with one text of a history and of what the disks keep, and these are told alike
abbrev pub TextsTellRuns : Type 0
TextsTellRuns = (wire : Bool) (a b : List Entry) (ds es : List Durable) → AreWholeEntries a → AreWholeEntries b → text wire a ds ≡ text wire b es → (shown wire a ≡ shown wire b) × (final_text ds ≡ final_text es)

-- a message that is read in its spelling, as each within its limits is
abbrev pub IsReadAgain : Message → Type 0
IsReadAgain m = received (spelled m) ≡ Whole m

abbrev pub AreReadAgain : List Message → Type 0
AreReadAgain [] = Unit {0}
AreReadAgain (m ∷ ms) = IsReadAgain m × AreReadAgain ms

abbrev pub SendReadable : List Entry → Type 0
SendReadable [] = Unit {0}
SendReadable (e ∷ es) = AreReadAgain e.sent × SendReadable es

-- entries without the volumes that they brought
abbrev pub bare : List Entry → List Entry
bare [] = []
bare (e ∷ es) = record { actor = e.actor; lines = e.lines; sent = e.sent; volumes = [] } ∷ bare es

-- with the bytes of messages, the text of a history whose messages can be read tells all of it
abbrev pub TextsTellMessages : Type 0
TextsTellMessages = (a b : List Entry) → AreWholeEntries a → AreWholeEntries b → SendReadable a → SendReadable b → history_text true a ≡ history_text true b → bare a ≡ bare b

-- entries and parcels as the program keeps them: each parcel is a message, and each is of one entry
pub record IsKeptHistory (parcels : List Parcel) (entries : List kept.Entry) : Type 0 where
  pub read : AreRead parcels
  pub all : sent_by entries ≡ length parcels
  pub whole : AreWholeEntries (entries_as_told parcels entries)

-- so what the program prints with the bytes of messages tells the history, its messages included
abbrev pub PrintedTellHistories : Type 0
PrintedTellHistories = (ps qs : List Parcel) (es fs : List kept.Entry) → IsKeptHistory ps es → IsKeptHistory qs fs → kept_history_text true ps es ≡ kept_history_text true qs fs → entries_as_told ps es ≡ entries_as_told qs fs

-- of numbers that aren't written whole a text doesn't tell all
abbrev pub LongNumbersAreCut : Type 0
LongNumbersAreCut = (a : List Entry) × (b : List Entry) × (history_text true a ≡ history_text true b) × (shown true a ≢ shown true b)
