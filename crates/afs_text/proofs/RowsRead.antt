-- The rows of a text, as they are read back: heads of entries, lines, and messages. What rows there are tells the entries.
use Rattle.std.proofs.Common.{◌≡◌, ℕ, ℤ, ◌+◌, Bool, true, false, List, [], ◌∷◌, ◌++◌, length, drop, Option, Some, None, refl, ap, sym, ◌∙◌, subst, append_assoc, append-nil, codes}
use Rattle.std.specs.Fmt.{decimal}
use Rattle.afs_num.specs.Texts.{node_text}
use Rattle.afs_num.specs.declared.types.Half.{Half}
use Rattle.afs_num.specs.declared.types.Half.TheVariants as halves
use Rattle.afs_num.specs.declared.types.Head.{Head}
use Rattle.afs_num.specs.declared.types.Node.{Node}
use Rattle.afs_num.specs.declared.types.Node.TheVariants.{Loc, Server, Client, Admin}
use Rattle.afs_num.specs.declared.messages.Message.{Message}
use Rattle.afs_num.specs.declared.histories.Actor.{Actor}
use Rattle.afs_num.specs.declared.histories.Actor.TheVariants as actors
use Rattle.spec_history.specs.declared.lines.Line.{Line}
use Rattle.spec_model.specs.Messages.{spelled}
use Rattle.spec_model.specs.Text.{actor_text, code_carried, code_text, half_word, head_text, message_text, messages_text, sent_text, entry_head_text, tail_text}
use Rattle.spec_rows.specs.Runs.{Entry}
use Rattle.spec_records.specs.Durable.{Durable}
use Rattle.afs_text.specs.FinalText.{final_text}
use Rattle.afs_text.specs.HistoryText.{entries_text, entry_text, history_text, text}
use Rattle.afs_text.specs.RunText.{line_text, lines_text}
use Rattle.afs_text.specs.Shown.{TextsTellEntries, TextsTellRuns, ShownEntry, ShownMessage, shown, shown_bytes, shown_code, shown_message, shown_messages}
use Rattle.afs_text.specs.Whole.{AreWholeEntries, AreWholeLines, AreWholeMessages, IsWhole, IsWholeActor, IsWholeNode, IsWholeHead, IsWholeLine, IsWholeMessage, IsWholeSigned}
use Rattle.afs_text.proofs.WordsRead.{Refuses, any_row, at_word, behind, node_at, node_row, number_at, number_last, number_refuses, number_row, read, refuses_joined, signed_at, signed_row}
use Rattle.afs_text.proofs.BytesRead.{hex_at, hex_row}
use Rattle.afs_text.proofs.LinesRead.{line_at, line_again}

-- the number of an entry and the place of a message aren't kept: they follow from what stands before
data Row : Type 0 where
  head : Actor → Row
  line : Line → Row
  sent : ShownMessage → Row

abbrev Found : Type 0
Found = Option (Row × List ℕ)

-- ---- heads

actor_at : List ℕ → Actor × List ℕ
actor_at bytes =
    at_word (behind (codes "clock\n") bytes) (λ r. (actors.Clock, r))
    (at_word (behind (codes "none\n") bytes) (λ r. (actors.Nobody, r))
    (read (node_at bytes) (λ n t. (actors.Node n, t))))

node_is_no_clock : (n : Node) (x : List ℕ) → IsWholeNode n → Refuses (codes "clock\n") (node_text n ++ x)
node_is_no_clock Loc x whole tail = refl
node_is_no_clock (Server i) x whole tail = refl
node_is_no_clock (Client i) x whole tail = refuses_joined (codes "lock\n") (decimal i) x (number_refuses i 108 (codes "ock\n") whole refl) tail
node_is_no_clock (Admin i) x whole tail = refl

node_is_not_none : (n : Node) (x : List ℕ) → Refuses (codes "none\n") (node_text n ++ x)
node_is_not_none Loc x tail = refl
node_is_not_none (Server i) x tail = refl
node_is_not_none (Client i) x tail = refl
node_is_not_none (Admin i) x tail = refl

actor_row : (a : Actor) → IsWholeActor a → (x rest : List ℕ) → actor_at ((actor_text a ++ 10 ∷ x) ++ rest) ≡ (a, x ++ rest)
unfolding actor_at
actor_row (actors.Node n) whole x rest = rw (node_is_no_clock n (10 ∷ x) whole rest, node_is_not_none n (10 ∷ x) rest, node_row n 10 whole refl x rest) refl
actor_row actors.Clock whole x rest = refl
actor_row actors.Nobody whole x rest = refl

head_at : List ℕ → Found
head_at bytes = read (number_at bytes) (λ n r. read (actor_at r) (λ a t. Some (head a, t)))

-- ---- messages

half_at : List ℕ → Half × List ℕ
half_at bytes =
    at_word (behind (codes "call ") bytes) (λ r. (halves.Call, r))
    (at_word (behind (codes "reply ") bytes) (λ r. (halves.Reply, r))
    (halves.Boot, drop 5 bytes))

half_row : (half : Half) (x rest : List ℕ) → half_at ((half_word half ++ x) ++ rest) ≡ (half, x ++ rest)
unfolding half_at
half_row halves.Call x rest = refl
half_row halves.Reply x rest = refl
half_row halves.Boot x rest = refl

abbrev code_at : Half → List ℕ → Option ℤ × List ℕ
code_at halves.Reply bytes = read (signed_at bytes) (λ z t. (Some z, t))
code_at half bytes = (None, bytes)

abbrev bytes_at : Bool → List ℕ → Option (List ℕ) × List ℕ
bytes_at true bytes = read (hex_at bytes) (λ b t. (Some b, t))
bytes_at false bytes = (None, bytes)

abbrev message : Half → Node → Node → ℕ → ℕ → ℕ → Option ℤ → Option (List ℕ) → ShownMessage
message half from to opcode epoch number code bytes = record { half = half; from = from; to = to; opcode = opcode; epoch = epoch; number = number; code = code; bytes = bytes }

-- what stands behind the half of a message: its numbers, its code and its bytes
behind_half : Bool → Half → Node → Node → List ℕ → Found
behind_half wire half from to bytes =
    read (number_at bytes) (λ op r. read (number_at r) (λ e s. read (number_at s) (λ n u.
    read (code_at half u) (λ z v. read (bytes_at wire v) (λ b t. Some (sent (message half from to op e n z b), t))))))

abbrev numbers_text : ℕ → ℕ → ℕ → List ℕ
numbers_text op e n = decimal op ++ (codes " " ++ (decimal e ++ (codes "." ++ decimal n)))

abbrev end_text : Bool → Half → ℤ → List ℕ → List ℕ
end_text wire half z bytes = code_text half z ++ (tail_text wire bytes ++ codes "\n")

abbrev AreWholeNumbers : ℕ → ℕ → ℕ → Type 0
AreWholeNumbers op e n = IsWhole op × IsWhole e × IsWhole n

half_again : (wire : Bool) (half : Half) (from to : Node) (op e n : ℕ) (z : ℤ) (bytes rest : List ℕ) → AreWholeNumbers op e n → IsWholeSigned z
    → behind_half wire half from to (numbers_text op e n ++ (end_text wire half z bytes ++ rest)) ≡ Some (sent (message half from to op e n (shown_code half z) (shown_bytes wire bytes)), rest)
unfolding behind_half code_text tail_text
half_again true halves.Call from to op e n z bytes rest whole code = rw (number_row op 32 whole.0 refl, number_row e 46 whole.1 refl, number_last n 32 whole.2 refl, hex_row bytes 10 refl [] rest) refl
half_again true halves.Reply from to op e n z bytes rest whole code = rw (number_row op 32 whole.0 refl, number_row e 46 whole.1 refl, number_last n 32 whole.2 refl, signed_row z 32 code refl, hex_row bytes 10 refl [] rest) refl
half_again true halves.Boot from to op e n z bytes rest whole code = rw (number_row op 32 whole.0 refl, number_row e 46 whole.1 refl, number_last n 32 whole.2 refl, hex_row bytes 10 refl [] rest) refl
half_again false halves.Call from to op e n z bytes rest whole code = rw (number_row op 32 whole.0 refl, number_row e 46 whole.1 refl, number_last n 10 whole.2 refl) refl
half_again false halves.Reply from to op e n z bytes rest whole code = rw (number_row op 32 whole.0 refl, number_row e 46 whole.1 refl, number_last n 32 whole.2 refl, signed_row z 10 code refl [] rest) refl
half_again false halves.Boot from to op e n z bytes rest whole code = rw (number_row op 32 whole.0 refl, number_row e 46 whole.1 refl, number_last n 10 whole.2 refl) refl

header_at : Bool → List ℕ → Found
header_at wire bytes = read (node_at bytes) (λ a r. read (node_at r) (λ b s. read (half_at s) (λ h t. behind_half wire h a b t)))

header_again : (wire : Bool) (h : Head) (z : ℤ) (bytes rest : List ℕ) → IsWholeHead h → IsWholeSigned z
    → header_at wire ((head_text h ++ end_text wire h.half z bytes) ++ rest) ≡ Some (sent (message h.half h.from h.to h.opcode h.epoch h.number (shown_code h.half z) (shown_bytes wire bytes)), rest)
unfolding header_at head_text
header_again wire h z bytes rest whole code =
    ap (header_at wire) (append_assoc (head_text h) (end_text wire h.half z bytes) rest)
    ∙ rw (node_row h.from 32 whole.0 refl, node_row h.to 32 whole.1 refl, half_row h.half) (half_again wire h.half h.from h.to h.opcode h.epoch h.number z bytes rest (whole.2, whole.3, whole.4) code)

sent_at : Bool → List ℕ → Found
sent_at wire bytes = read (number_at bytes) (λ place r. header_at wire r)

-- ---- rows

abbrev or_else : Option (Line × List ℕ) → Found → Found
or_else (Some r) other = Some (line r.0, r.1)
or_else None other = other

row_at : Bool → List ℕ → Found
row_at wire bytes =
    or_else (line_at bytes)
    (at_word (behind (codes "entry ") bytes) head_at
    (at_word (behind (codes "sent ") bytes) (sent_at wire) None))

line_row : (wire : Bool) (l : Line) → IsWholeLine l → (rest : List ℕ) → row_at wire (line_text l ++ rest) ≡ Some (line l, rest)
unfolding row_at
line_row wire l whole rest = rw (line_again l whole rest) refl

head_row : (wire : Bool) (number : ℕ) (a : Actor) → IsWholeActor a → (rest : List ℕ) → row_at wire (entry_head_text number a ++ rest) ≡ Some (head a, rest)
unfolding row_at line_at entry_head_text head_at
head_row wire number a whole rest = rw (any_row number 32 refl, actor_row a whole [] rest) refl

message_row : (wire : Bool) (place : ℕ) (m : Message) → IsWholeMessage m → (rest : List ℕ) → row_at wire (message_text wire place m ++ rest) ≡ Some (sent (shown_message wire m), rest)
unfolding row_at line_at message_text sent_text sent_at
message_row wire place m whole rest = rw (any_row place 32 refl) (header_again wire m.head (code_carried m.carried) (spelled m) rest whole.0 whole.1)

-- ---- texts

-- these bytes begin with the text of these rows, and then comes the rest
abbrev Reads : Bool → List ℕ → List Row → List ℕ → Type 0
Reads wire bytes [] rest = bytes ≡ rest
Reads wire bytes (r ∷ rs) rest = (next : List ℕ) × (row_at wire bytes ≡ Some (r, next)) × Reads wire next rs rest

reads_then : (wire : Bool) (xs ys : List Row) (a b c : List ℕ) → Reads wire a xs b → Reads wire b ys c → Reads wire a (xs ++ ys) c
reads_then wire [] ys a b c p q = subst (λ (t : List ℕ). Reads wire t ys c) (sym p) q
reads_then wire (x ∷ xs) ys a b c p q = (p.0, p.1, reads_then wire xs ys p.0 b c p.2 q)

-- where no row stands behind them, bytes are the text of one list of rows
one_reading : (wire : Bool) (xs ys : List Row) (bytes a b : List ℕ) → Reads wire bytes xs a → Reads wire bytes ys b → row_at wire a ≡ None → row_at wire b ≡ None → (xs ≡ ys) × (a ≡ b)
one_reading wire [] [] bytes a b p q none other = (refl, sym p ∙ q)
one_reading wire [] (y ∷ ys) bytes a b p q none other =
    let no : (let s : Found = Some (y, q.0) in s) ≡ None = sym q.1 ∙ ap (row_at wire) p ∙ none in cc
one_reading wire (x ∷ xs) [] bytes a b p q none other =
    let no : (let s : Found = Some (x, p.0) in s) ≡ None = sym p.1 ∙ ap (row_at wire) q ∙ other in cc
one_reading wire (x ∷ xs) (y ∷ ys) bytes a b p q none other =
    let found : (let s : Found = Some (x, p.0) in s) ≡ Some (y, q.0) = sym p.1 ∙ q.1 in
    let pair : (let s : Row × List ℕ = (x, p.0) in s) ≡ (y, q.0) = cc in
    let next : p.0 ≡ q.0 = ap (λ (s : Row × List ℕ). s.1) pair in
    let more = one_reading wire xs ys p.0 a b p.2 (subst (λ (t : List ℕ). Reads wire t ys b) (sym next) q.2) none other in
    let first : x ≡ y = ap (λ (s : Row × List ℕ). s.0) pair in
    let both : x ∷ xs ≡ y ∷ ys = (λ i. first i ∷ more.0 i) in
    (both, more.1)

abbrev line_rows : List Line → List Row
line_rows [] = []
line_rows (l ∷ ls) = line l ∷ line_rows ls

abbrev sent_rows : Bool → List Message → List Row
sent_rows wire [] = []
sent_rows wire (m ∷ ms) = sent (shown_message wire m) ∷ sent_rows wire ms

abbrev rows_of : Bool → List Entry → List Row
rows_of wire [] = []
rows_of wire (e ∷ es) = head e.actor ∷ (line_rows e.lines ++ (sent_rows wire e.sent ++ rows_of wire es))

lines_read : (wire : Bool) (ls : List Line) → AreWholeLines ls → (rest : List ℕ) → Reads wire (lines_text ls ++ rest) (line_rows ls) rest
unfolding lines_text
lines_read wire [] whole rest = refl
lines_read wire (l ∷ ls) whole rest =
    (lines_text ls ++ rest, ap (row_at wire) (append_assoc (line_text l) (lines_text ls) rest) ∙ line_row wire l whole.0 (lines_text ls ++ rest), lines_read wire ls whole.1 rest)

messages_read : (wire : Bool) (place : ℕ) (ms : List Message) → AreWholeMessages ms → (rest : List ℕ) → Reads wire (messages_text wire place ms ++ rest) (sent_rows wire ms) rest
messages_read wire place [] whole rest = refl
messages_read wire place (m ∷ ms) whole rest =
    let more = messages_text wire (place + 1) ms in
    (more ++ rest, ap (row_at wire) (append_assoc (message_text wire place m) more rest) ∙ message_row wire place m whole.0 (more ++ rest), messages_read wire (place + 1) ms whole.1 rest)

entries_read : (wire : Bool) (number place : ℕ) (es : List Entry) → AreWholeEntries es → (rest : List ℕ) → Reads wire (entries_text wire number place es ++ rest) (rows_of wire es) rest
unfolding entry_text
entries_read wire number place [] whole rest = refl
entries_read wire number place (e ∷ es) whole rest =
    let step = entry_head_text number e.actor in
    let ls = lines_text e.lines in
    let ms = messages_text wire place e.sent in
    let more = entries_text wire (number + 1) (place + length e.sent) es in
    let apart : (((step ++ ls) ++ ms) ++ more) ++ rest ≡ step ++ (ls ++ (ms ++ (more ++ rest))) =
    append_assoc ((step ++ ls) ++ ms) more rest ∙ append_assoc (step ++ ls) ms (more ++ rest) ∙ append_assoc step ls (ms ++ (more ++ rest)) in
    let told = reads_then wire (sent_rows wire e.sent) (rows_of wire es) (ms ++ (more ++ rest)) (more ++ rest) rest
    (messages_read wire place e.sent whole.0.2 (more ++ rest)) (entries_read wire (number + 1) (place + length e.sent) es whole.1 rest) in (
      ls ++ (ms ++ (more ++ rest)),
      ap (row_at wire) apart ∙ head_row wire number e.actor whole.0.0 (ls ++ (ms ++ (more ++ rest))),
      reads_then wire (line_rows e.lines) (sent_rows wire e.sent ++ rows_of wire es) (ls ++ (ms ++ (more ++ rest))) (ms ++ (more ++ rest)) rest
          (lines_read wire e.lines whole.0.1 (ms ++ (more ++ rest))) told,
    )

-- ---- entries from rows

-- entries, and what stands before the first of them
record Gathered : Type 0 where
  pub lines : List Line
  pub sent : List ShownMessage
  pub entries : List ShownEntry

abbrev with_row : Row → Gathered → Gathered
with_row (head a) g = record { lines = []; sent = []; entries = record { actor = a; lines = g.lines; sent = g.sent } ∷ g.entries }
with_row (line l) g = record g { lines = l ∷ g.lines }
with_row (sent m) g = record g { sent = m ∷ g.sent }

abbrev gathered : List Row → Gathered
gathered [] = record { lines = []; sent = []; entries = [] }
gathered (r ∷ rs) = with_row r (gathered rs)

lines_gathered : (ls : List Line) (rs : List Row) → gathered (line_rows ls ++ rs) ≡ record { lines = ls ++ (gathered rs).lines; sent = (gathered rs).sent; entries = (gathered rs).entries }
lines_gathered [] rs = refl
lines_gathered (l ∷ ls) rs = ap (with_row (line l)) (lines_gathered ls rs)

messages_gathered : (wire : Bool) (ms : List Message) (rs : List Row) → gathered (sent_rows wire ms ++ rs) ≡ record { lines = (gathered rs).lines; sent = shown_messages wire ms ++ (gathered rs).sent; entries = (gathered rs).entries }
messages_gathered wire [] rs = refl
messages_gathered wire (m ∷ ms) rs = ap (with_row (sent (shown_message wire m))) (messages_gathered wire ms rs)

entries_gathered : (wire : Bool) (es : List Entry) → gathered (rows_of wire es) ≡ record { lines = []; sent = []; entries = shown wire es }
entries_gathered wire [] = refl
entries_gathered wire (e ∷ es) =
    let of_messages = messages_gathered wire e.sent (rows_of wire es) ∙ ap (λ (g : Gathered). let r : Gathered = record { lines = g.lines; sent = shown_messages wire e.sent ++ g.sent; entries = g.entries } in r) (entries_gathered wire es) in
    let of_lines = lines_gathered e.lines (sent_rows wire e.sent ++ rows_of wire es) ∙ ap (λ (g : Gathered). let r : Gathered = record { lines = e.lines ++ g.lines; sent = g.sent; entries = g.entries } in r) of_messages in
    let nothing_more : (let r : Gathered = record { lines = e.lines ++ []; sent = shown_messages wire e.sent ++ []; entries = shown wire es } in r) ≡ record { lines = e.lines; sent = shown_messages wire e.sent; entries = shown wire es } =
    (λ i. record { lines = append-nil e.lines i; sent = append-nil (shown_messages wire e.sent) i; entries = shown wire es }) in
    ap (with_row (head e.actor)) (of_lines ∙ nothing_more)

-- ---- one text, one history that is shown

-- and one rest, where no row begins this
texts_tell : (wire : Bool) (a b : List Entry) (x y : List ℕ) → AreWholeEntries a → AreWholeEntries b → row_at wire x ≡ None → row_at wire y ≡ None
    → history_text wire a ++ x ≡ history_text wire b ++ y → (shown wire a ≡ shown wire b) × (x ≡ y)
unfolding history_text
texts_tell wire a b x y whole other none also same =
    let read_b = subst (λ (t : List ℕ). Reads wire t (rows_of wire b) y) (sym same) (entries_read wire 1 1 b other y) in
    let one = one_reading wire (rows_of wire a) (rows_of wire b) (entries_text wire 1 1 a ++ x) x y (entries_read wire 1 1 a whole x) read_b none also in
    (ap (λ (g : Gathered). g.entries) (sym (entries_gathered wire a) ∙ ap gathered one.0 ∙ entries_gathered wire b), one.1)

nothing_is_no_row : (wire : Bool) → row_at wire [] ≡ None
unfolding row_at line_at
nothing_is_no_row wire = refl

end_is_no_row : (wire : Bool) (ds : List Durable) → row_at wire (final_text ds) ≡ None
unfolding row_at line_at final_text
end_is_no_row wire ds = refl

pub texts_tell_entries : TextsTellEntries
texts_tell_entries wire a b whole other same = (texts_tell wire a b [] [] whole other (nothing_is_no_row wire) (nothing_is_no_row wire) (ap (λ (t : List ℕ). t ++ []) same)).0

pub texts_tell_runs : TextsTellRuns
unfolding text
texts_tell_runs wire a b ds es whole other same = texts_tell wire a b (final_text ds) (final_text es) whole other (end_is_no_row wire ds) (end_is_no_row wire es) same
