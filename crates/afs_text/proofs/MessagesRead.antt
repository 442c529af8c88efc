-- What texts with the bytes of messages tell, and what no text tells of numbers that are too long.
use Rattle.std.proofs.Common.{◌≡◌, ℕ, ◌^◌, ◌*◌, true, List, [], ◌∷◌, take, drop, Option, Some, refl, ap, subst, sym, ◌∙◌, arith}
use Rattle.std.specs.Fmt.{decimal, digits}
use Rattle.afs_num.specs.declared.histories.Actor.TheVariants as actors
use Rattle.afs_num.specs.declared.types.Parcel.{Parcel}
use Rattle.afs_num.specs.declared.messages.Message.{Message}
use Rattle.afs_num.specs.declared.messages.Received.{Received}
use Rattle.afs_num.specs.declared.messages.Received.TheVariants.{Whole}
use Rattle.spec_history.specs.declared.lines.Entry as kept
use Rattle.spec_history.specs.declared.lines.Line.{Line}
use Rattle.spec_history.specs.declared.lines.Line.TheVariants as lines
use Rattle.spec_model.specs.LineText.{tick_text}
use Rattle.spec_model.specs.Messages.{received, spelled}
use Rattle.spec_model.specs.Telling.{AreRead, messages_of, with_received}
use Rattle.spec_rows.specs.Runs.{Entry}
use Rattle.afs_text.specs.HistoryText.{entry_text, history_text}
use Rattle.afs_text.specs.Telling.{entries_as_told}
use Rattle.afs_text.specs.RunText.{line_text, lines_text}
use Rattle.afs_text.specs.Shown.{AreReadAgain, SendReadable, IsReadAgain, LongNumbersAreCut, PrintedTellHistories, ShownEntry, ShownMessage, TextsTellMessages, bare, shown, shown_entry, shown_message, shown_messages}
use Rattle.afs_text.proofs.Kept.{history_told}
use Rattle.afs_text.proofs.RowsRead.{texts_tell_entries}
use Rattle.afs_text.proofs.Sent.{read_next, read_take}

-- ---- messages

one_message : (m n : Message) → IsReadAgain m → IsReadAgain n → shown_message true m ≡ shown_message true n → m ≡ n
one_message m n fits other same =
    let bytes : (let o : Option (List ℕ) = Some (spelled m) in o) ≡ Some (spelled n) = ap (λ (s : ShownMessage). s.bytes) same in
    let one : spelled m ≡ spelled n = cc in
    let whole : (let r : Received = Whole m in r) ≡ Whole n = sym fits ∙ ap received one ∙ other in
    cc

one_sending : (ms ns : List Message) → AreReadAgain ms → AreReadAgain ns → shown_messages true ms ≡ shown_messages true ns → ms ≡ ns
one_sending [] [] fit other same = refl
one_sending [] (n ∷ ns) fit other same = cc
one_sending (m ∷ ms) [] fit other same = cc
one_sending (m ∷ ms) (n ∷ ns) fit other same =
    let first : shown_message true m ≡ shown_message true n = cc in
    let rest : shown_messages true ms ≡ shown_messages true ns = cc in
    let one : m ≡ n = one_message m n fit.0 other.0 first in
    let more : ms ≡ ns = one_sending ms ns fit.1 other.1 rest in
    (λ i. one i ∷ more i)

one_history : (a b : List Entry) → SendReadable a → SendReadable b → shown true a ≡ shown true b → bare a ≡ bare b
one_history [] [] fit other same = refl
one_history [] (e ∷ es) fit other same = cc
one_history (d ∷ ds) [] fit other same = cc
one_history (d ∷ ds) (e ∷ es) fit other same =
    let first : shown_entry true d ≡ shown_entry true e = cc in
    let rest : shown true ds ≡ shown true es = cc in
    let actor : d.actor ≡ e.actor = ap (λ (s : ShownEntry). s.actor) first in
    let told : d.lines ≡ e.lines = ap (λ (s : ShownEntry). s.lines) first in
    let sent : d.sent ≡ e.sent = one_sending d.sent e.sent fit.0 other.0 (ap (λ (s : ShownEntry). s.sent) first) in
    let more : bare ds ≡ bare es = one_history ds es fit.1 other.1 rest in
    (λ i. record { actor = actor i; lines = told i; sent = sent i; volumes = [] } ∷ more i)

pub texts_tell_messages : TextsTellMessages
texts_tell_messages a b whole other fit also same = one_history a b fit also (texts_tell_entries true a b whole other same)

-- ---- what the program keeps

parcels_again : (ps : List Parcel) → AreRead ps → AreReadAgain (messages_of ps)
parcels_again [] read = tt
parcels_again (p ∷ ps) read =
    let next = read_next p ps read in
    subst (λ (r : Received). AreReadAgain (with_received r (messages_of ps))) (sym next.read) (ap received (sym next.bytes) ∙ next.read, parcels_again ps next.others)

told_again : (ps : List Parcel) (es : List kept.Entry) → AreRead ps → SendReadable (entries_as_told ps es)
told_again ps [] read = tt
told_again ps (e ∷ es) read =
    let both = read_take e.sent ps read in
    (parcels_again (take e.sent ps) both.0, told_again (drop e.sent ps) es both.1)

bare_told : (ps : List Parcel) (es : List kept.Entry) → bare (entries_as_told ps es) ≡ entries_as_told ps es
bare_told ps [] = refl
bare_told ps (e ∷ es) = ap (λ (rest : List Entry). record { actor = e.actor; lines = e.lines; sent = messages_of (take e.sent ps); volumes = [] } ∷ rest) (bare_told (drop e.sent ps) es)

pub printed_tell_histories : PrintedTellHistories
printed_tell_histories ps qs es fs one other same =
    let texts : history_text true (entries_as_told ps es) ≡ history_text true (entries_as_told qs fs) = sym (history_told true ps es one.read one.all) ∙ same ∙ history_told true qs fs other.read other.all in
    sym (bare_told ps es) ∙ texts_tell_messages (entries_as_told ps es) (entries_as_told qs fs) one.whole other.whole (told_again ps es one.read) (told_again qs fs other.read) texts ∙ bare_told qs fs

-- ---- numbers that are too long

-- the clock rises by so many ticks
abbrev ticked : ℕ → List Entry
ticked n = record { actor = actors.Clock; lines = lines.Tick n ∷ []; sent = []; volumes = [] } ∷ []

-- 1 and 63 zeros, and the same with a 1 before it
one_decimal : decimal (10 ^ 63) ≡ decimal (11 * 10 ^ 63)
unfolding digits
one_decimal = refl

abbrev ticks_of : List Line → ℕ
ticks_of (lines.Tick n ∷ ls) = n
ticks_of _ = 0

abbrev first_ticks : List ShownEntry → ℕ
first_ticks (e ∷ es) = ticks_of e.lines
first_ticks [] = 0

pub long_numbers_are_cut : LongNumbersAreCut
unfolding history_text entry_text lines_text line_text tick_text
long_numbers_are_cut = (
  ticked (10 ^ 63),
  ticked (11 * 10 ^ 63),
  rw one_decimal refl,
  λ same. let no : 10 ^ 63 ≡ 11 * 10 ^ 63 = ap first_ticks same in omega arith,
)
