-- What is counted of a history.
use Rattle.std.specs.Prelude.{◌≡◌, ◌<◌, ◌^◌, ℕ, ◌+◌, List, [], ◌∷◌, ℤ, pos, length, Bool, true, false, Option, Some, None}
use Rattle.afs_num.specs.declared.histories.Actor.{Actor}
use Rattle.afs_num.specs.declared.histories.Actor.TheVariants as actors
use Rattle.spec_history.specs.declared.lines.Entry as kept
use Rattle.spec_history.specs.declared.lines.Line.{Line}
use Rattle.spec_history.specs.declared.lines.Line.TheVariants as lines
use Rattle.spec_model.specs.Heads.{is_zero}
use Rattle.spec_rows.specs.Runs.{Entry}
use Rattle.afs_summary.specs.declared.counts.Counts.{Counts}

abbrev pub nothing_yet : Counts
nothing_yet = record { entries = 0; sent = 0; changes = 0; zero = 0; other = 0 }

-- ---- lines

-- what a line counts as
pub data Item : Type 0 where
  a_change : Item
  an_answer : ℤ → Item
  neither : Item

-- Changes count, and the answers of acts: of clients and of administrators, those that tell a release that is too old, and those that leave
-- an entry stuck.
abbrev pub item : Line → Item
item (lines.Change server key count) = a_change
item (lines.Answer node code) = an_answer code.0
item (lines.Stuck node code) = an_answer code.0
item (lines.Older node offered seen) = an_answer (pos 105)
item line = neither

abbrev pub with_change : Counts → Counts
with_change c = record c { changes = c.changes + 1 }

-- an answer is 0, or another
abbrev pub with_answered : Bool → Counts → Counts
with_answered true c = record c { zero = c.zero + 1 }
with_answered false c = record c { other = c.other + 1 }

abbrev pub with_answer : Counts → ℤ → Counts
with_answer c code = with_answered (is_zero code) c

abbrev pub with_item : Counts → Item → Counts
with_item c a_change = with_change c
with_item c (an_answer code) = with_answer c code
with_item c neither = c

abbrev pub line_counted : Counts → Line → Counts
line_counted c line = with_item c (item line)

abbrev pub with_lines : Counts → List Line → Counts
with_lines c [] = c
with_lines c (line ∷ more) = with_lines (line_counted c line) more

-- ---- entries

-- a step with these lines, which sent so many messages
abbrev pub with_step : Counts → List Line → ℕ → Counts
with_step c lines sent = with_lines (record c { entries = c.entries + 1; sent = c.sent + sent }) lines

-- an entry of nobody is that of an event that was void: it counts for nothing
abbrev pub entry_counted : Counts → Actor → List Line → ℕ → Counts
entry_counted c actors.Nobody lines sent = c
entry_counted c actor lines sent = with_step c lines sent

-- the entries of a history
abbrev pub with_history : Counts → List Entry → Counts
with_history c [] = c
with_history c (e ∷ es) = with_history (entry_counted c e.actor e.lines (length e.sent)) es

abbrev pub counts_of : List Entry → Counts
counts_of history = with_history nothing_yet history

-- none of these entries is that of an event that was void
abbrev pub NoneIsVoid : List Entry → Type 0
NoneIsVoid [] = Unit {0}
NoneIsVoid (e ∷ es) = (e.actor ≡ actors.Nobody → ⊥) × NoneIsVoid es

-- then each of them counts
abbrev pub EntriesAreCounted : Type 0
EntriesAreCounted = (history : List Entry) → NoneIsVoid history → (counts_of history).entries ≡ length history

-- and as the program keeps them
abbrev pub with_kept : Counts → List kept.Entry → Counts
with_kept c [] = c
with_kept c (e ∷ es) = with_kept (entry_counted c e.actor e.lines e.sent) es

abbrev pub counts_kept : List kept.Entry → Counts
counts_kept entries = with_kept nothing_yet entries

-- ---- as far as numbers go

-- each number has room in its place
pub record Fits (c : Counts) : Type 0 where
  pub entries : c.entries < 2 ^ 64
  pub sent : c.sent < 2 ^ 64
  pub changes : c.changes < 2 ^ 64
  pub zero : c.zero < 2 ^ 64
  pub other : c.other < 2 ^ 64

-- that is given, or there is no room for it
abbrev pub Gives : Counts → Option Counts → Type 0
Gives c (Some given) = given ≡ c
Gives c None = Fits c → ⊥

-- what is counted so far is what these entries count
abbrev pub AreCounted : Option Counts → List kept.Entry → Type 0
AreCounted counts entries = Gives (counts_kept entries) counts
