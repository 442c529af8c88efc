-- What the location database runs, over whatever it is given and however often it begins again.
use Rattle.law_legal.specs.Once.{past_of}
use Rattle.afs_num.specs.declared.histories.Actor.{Actor}
use Rattle.spec_history.specs.declared.scripts.VolumeLine.{VolumeLine}
use Rattle.law_legal.specs.Laws.{AscendBy}
use Rattle.law_legal.specs.Cells.{IsOfCell}
use Rattle.afs_num.specs.declared.messages.Message.{Message}
use Rattle.law_legal.specs.Database.{IsInOrder}
use Rattle.law_legal.specs.Ideal.{set_up_entry}
use Rattle.law_legal.specs.Lives.{TellsStop}
use Rattle.law_legal.specs.Parts.{EachEntry}
use Rattle.law_legal.specs.Past.{given_message, sent_of, server_boot, lines_of}
use Rattle.afs_num.specs.declared.histories.Actor.TheVariants as actors
use Rattle.afs_num.specs.declared.types.Node.TheVariants.{Loc, Admin, Server, Client}
use Rattle.afs_num.specs.Nodes.{IsNode}
use Rattle.std.specs.List.{AllByRecursion}
use Rattle.spec_records.specs.LocDurable.{loc_boot_record, loc_folded, loc_set_up, LocDurable}
use Rattle.spec_records.specs.LocRecords.{LocRecord}
use Rattle.afs_num.specs.declared.messages.Received.TheVariants.{Nothing, Unreadable, Whole, Unserved}
use Rattle.spec_history.specs.declared.scripts.Script.{Script}
use Rattle.spec_rows.specs.LocSteps.{LocHost}
use Rattle.spec_rows.specs.Runs.{start, Entry, Cell, RunsTo, message_at, first_loc}
use Rattle.std.specs.Prelude.{⊤, ◌≡◌, ◌<◌, ◌≤◌, ◌⊎◌, ◌+◌, ℕ, List, [], ◌∷◌, ◌++◌, Option, Some, None}
use Rattle.spec_shape.specs.Taking.{◌>>=◌}
use Rattle.afs_num.specs.declared.messages.Received.{Received}
use Rattle.afs_num.specs.declared.types.Head.{Head}
use Rattle.afs_num.specs.declared.types.Node.{Node}
use Rattle.spec_model.specs.Calls.{call_seat, key_of}
use Rattle.spec_rows.specs.LocRow.{drops, loc_decides, loc_left, loc_sent, loc_revived, refuses, repeats, saves, shows, tells_boot, LocDecision, LocState, loc_record_of, loc_durable_of}
use Rattle.spec_rows.specs.States.{Seat}

-- It is given something, and its step is done; or it begins again. A step that stops once its record is whole is done but for what it
-- sends; one that stops before leaves all as it was.
pub data LocEvent : Type 0 where
  is_given : Received → LocEvent
  begins_again : LocEvent

abbrev pub loc_behind : LocState → LocEvent → LocState
loc_behind s (is_given r) = loc_left s (loc_decides s r)
loc_behind s begins_again = loc_revived s

abbrev pub loc_behind_all : LocState → List LocEvent → LocState
loc_behind_all s [] = s
loc_behind_all s (e ∷ es) = loc_behind_all (loc_behind s e) es

-- it doesn't begin again in these
abbrev pub IsOneBoot : List LocEvent → Type 0
IsOneBoot [] = ⊤
IsOneBoot (is_given r ∷ es) = IsOneBoot es
IsOneBoot (begins_again ∷ es) = ⊥

-- the call that a decision runs
abbrev pub head_run : LocDecision → Option Head
head_run (refuses head code) = Some head
head_run (shows head reply) = Some head
head_run (saves head c) = Some head
head_run drops = None
head_run (tells_boot head) = None
head_run (repeats reply) = None

-- and the one that it changes something for
abbrev pub head_saved : LocDecision → Option Head
head_saved (saves head c) = Some head
head_saved (refuses head code) = None
head_saved (shows head reply) = None
head_saved drops = None
head_saved (tells_boot head) = None
head_saved (repeats reply) = None

-- ---- boots

-- the boot number never falls, and stays as long as the database doesn't begin again
abbrev pub LocBootsRise : Type 0
LocBootsRise = (s : LocState) (es : List LocEvent) → (s.lasting.boot ≤ (loc_behind_all s es).lasting.boot) × (IsOneBoot es → (loc_behind_all s es).lasting.boot ≡ s.lasting.boot)

-- ---- calls

-- in one boot no call runs that has the key of one that ran
abbrev pub LocCallsRunOnce : Type 0
LocCallsRunOnce = (s : LocState) (r q : Received) (es : List LocEvent) (head other : Head) → IsOneBoot es → head_run (loc_decides s r) ≡ Some head
    → head_run (loc_decides (loc_behind_all (loc_behind s (is_given r)) es) q) ≡ Some other → key_of other ≡ key_of head → ⊥

-- the caller's last call, if there is one, is earlier than this pair
abbrev pub IsAfter : Option Seat → ℕ → ℕ → Type 0
IsAfter None epoch number = ⊤
IsAfter (Some seat) epoch number = (seat.epoch < epoch) ⊎ ((seat.epoch ≡ epoch) × (seat.number < number))

-- what is kept of a caller on the disk is no later call than its last one; so it is at set-up, where nothing is kept
pub record CallersAreSettled (s : LocState) : Type 0 where
  pub kept : (n : Node) (epoch number : ℕ) → IsAfter (call_seat n s.seats) epoch number → IsAfter (call_seat n s.lasting.kept) epoch number

abbrev pub LocStaysSettled : Type 0
LocStaysSettled = (s : LocState) (e : LocEvent) → CallersAreSettled s → CallersAreSettled (loc_behind s e)

-- over all boots no call runs that has the key of one that changed something
abbrev pub LocChangesAreOnce : Type 0
LocChangesAreOnce = (s : LocState) (r q : Received) (es : List LocEvent) (head other : Head) → CallersAreSettled s → head_saved (loc_decides s r) ≡ Some head
    → head_run (loc_decides (loc_behind_all (loc_behind s (is_given r)) es) q) ≡ Some other → key_of other ≡ key_of head → ⊥

-- ---- its journal

-- who calls is a node of the cell
abbrev pub IsOfNode : Received → Type 0
IsOfNode Nothing = ⊤
IsOfNode (Unserved head) = IsNode head.from
IsOfNode (Unreadable head) = IsNode head.from
IsOfNode (Whole m) = IsNode m.head.from

abbrev pub AreOfNodes : List LocEvent → Type 0
AreOfNodes [] = ⊤
AreOfNodes (is_given r ∷ es) = IsOfNode r × AreOfNodes es
AreOfNodes (begins_again ∷ es) = AreOfNodes es

-- the record that the journal gets
abbrev pub record_saved : LocState → LocDecision → List LocRecord
record_saved s (saves head c) = loc_record_of s.lasting.boot head c ∷ []
record_saved s (refuses head code) = []
record_saved s (shows head reply) = []
record_saved s drops = []
record_saved s (tells_boot head) = []
record_saved s (repeats reply) = []

abbrev pub records_of : LocState → LocEvent → List LocRecord
records_of s (is_given r) = record_saved s (loc_decides s r)
records_of s begins_again = loc_boot_record (s.lasting.boot + 1) ∷ []

-- and all that it gets, in their order
abbrev pub journal_of : LocState → List LocEvent → List LocRecord
journal_of s [] = []
journal_of s (e ∷ es) = records_of s e ++ journal_of (loc_behind s e) es

abbrev pub loc_all_folded : List LocRecord → LocDurable → Option LocDurable
loc_all_folded [] d = Some d
loc_all_folded (r ∷ rs) d = loc_folded r d >>= loc_all_folded rs

-- entries and locks are in order, and replies are kept for nodes of the cell
pub record IsStored (s : LocState) : Type 0 where
  pub order : IsInOrder s.lasting.next_stamp s.lasting.entries
  pub callers : AllByRecursion (λ (x : Seat). IsNode x.caller) s.lasting.kept

-- What it has lastingly is the fold of these records, whatever it is given. So that is true from set-up on.
abbrev pub LocJournalIsFolded : Type 0
LocJournalIsFolded = ((s : LocState) (es : List LocEvent) → IsStored s → AreOfNodes es → loc_all_folded (journal_of s es) (loc_durable_of s.lasting) ≡ Some (loc_durable_of (loc_behind_all s es).lasting))
    × ((s : Script) → IsStored (start s).loc.state)

-- What set-up puts on its disk is what it begins with, where the volumes of the script have ascending numbers
abbrev pub LocSetUpsAreFirst : Type 0
LocSetUpsAreFirst = (capacity : ℕ) (vs : List VolumeLine) (d : LocDurable) → AscendBy 0 vs → loc_set_up capacity vs ≡ Some d → d ≡ loc_durable_of (first_loc capacity vs).lasting

-- ---- in a cell

-- what it was given, as an event
abbrev pub event_in : Option Message → Option LocEvent
event_in None = None
event_in (Some m) = Some (is_given (Whole m))

-- one more event, if there is one
abbrev pub with_event : List LocEvent → Option LocEvent → List LocEvent
with_event es None = es
with_event es (Some e) = es ++ (e ∷ [])

-- what was left half is done, or it isn't
abbrev pub HalfIsDone : List LocEvent → Option LocEvent → List LocEvent → Type 0
HalfIsDone before half es = (es ≡ before) ⊎ (es ≡ with_event before half)

-- Behind an entry of it these are its events, and this is what it left half, where these were that before. It was in the first boot, and is in the second;
-- none stands for down. While it is up, it does what it is given; what it was given when it stopped it left half. A start that fails leaves all as it was;
-- or what was half is done or not, and it may have left its start half. A start begins again, behind that
abbrev pub IsStepOf : Option ℕ → Option ℕ → Option Message → List LocEvent → Option LocEvent → List LocEvent → Option LocEvent → Type 0
IsStepOf (Some boot) (Some next) given before was es half = (es ≡ with_event before (event_in given)) × (half ≡ None)
IsStepOf (Some boot) None given before was es half = (es ≡ before) × (half ≡ event_in given)
IsStepOf None None given before was es half = ((es ≡ before) × (half ≡ was)) ⊎ (HalfIsDone before was es × ((half ≡ None) ⊎ (half ≡ Some begins_again)))
IsStepOf None (Some next) given before was es half = (done : List LocEvent) × (HalfIsDone before was done × ((es ≡ done ++ (begins_again ∷ [])) × (half ≡ None)))

-- the first in entries of it, the second in all others
abbrev pub AtLoc : Actor → Type 0 → Type 0 → Type 0
AtLoc (actors.Node Loc) X Y = X
AtLoc (actors.Node (Server i)) X Y = Y
AtLoc (actors.Node (Client j)) X Y = Y
AtLoc (actors.Node (Admin k)) X Y = Y
AtLoc actors.Clock X Y = Y
AtLoc actors.Nobody X Y = Y

-- these events are what its entries among these, the newest first, gave it and told of its starts, in their order; and this is left half
abbrev pub WereGiven : List Entry → List LocEvent → Option LocEvent → Type 0
WereGiven [] es half = (es ≡ []) × (half ≡ None)
WereGiven (e ∷ past) es half = (before : List LocEvent) × ((was : Option LocEvent) × (WereGiven past before was
    × AtLoc e.actor (IsStepOf (server_boot Loc (lines_of past)) (server_boot Loc (lines_of (e ∷ past))) (given_message e.lines (sent_of past)) before was es half) ((es ≡ before) × (half ≡ was))))

-- These events make of the database as it was set up what this one has lastingly; and all that it has, while it is up
pub record IsBehindEvents (past : List Entry) (s : LocState) (h : LocHost) : Type 0 where
  pub events : List LocEvent
  pub half : Option LocEvent
  pub given : WereGiven past events half
  pub lasting : h.state.lasting ≡ (loc_behind_all s events).lasting
  pub up : h.down ≡ None → h.state ≡ loc_behind_all s events

-- so is that of every run, whatever stopped it, and whichever record was whole then
abbrev pub LocRunsEvents : Type 0
LocRunsEvents = (s : Script) (history : List Entry) (end : Cell) → RunsTo history s end → IsBehindEvents (past_of (set_up_entry s ∷ []) history) (start s).loc.state end.loc

-- The records of its journal by these events make of the database as it was set up what this one has lastingly
pub record HasJournal (past : List Entry) (s : LocState) (h : LocHost) : Type 0 where
  pub events : List LocEvent
  pub half : Option LocEvent
  pub given : WereGiven past events half
  pub folded : loc_all_folded (journal_of s events) (loc_durable_of s.lasting) ≡ Some (loc_durable_of h.state.lasting)

-- in every run of a script of a cell, which has sixteen clients at most
abbrev pub LocKeepsItsJournal : Type 0
LocKeepsItsJournal = (s : Script) (history : List Entry) (end : Cell) → IsOfCell s → s.clients ≤ 16 → RunsTo history s end → HasJournal (past_of (set_up_entry s ∷ []) history) (start s).loc.state end.loc

-- ---- its answers

-- these messages are what its row says to that one, in the state that what these entries gave it made of it
pub record HasAnswered (s : LocState) (past : List Entry) (m : Message) (ms : List Message) : Type 0 where
  pub events : List LocEvent
  pub half : Option LocEvent
  pub given : WereGiven past events half
  pub answered : ms ≡ loc_sent (loc_behind_all s events) (loc_decides (loc_behind_all s events) (Whole m))

-- whoever sent it something, it answers so; or it stops in that entry
pub record IsByRow (s : LocState) (past : List Entry) (e : Entry) : Type 0 where
  pub row : e.actor ≡ actors.Node Loc → (m : Message) → given_message e.lines (sent_of past) ≡ Some m → TellsStop e.lines ⊎ HasAnswered s past m e.sent

-- so is each entry of a run
abbrev pub LocAnswersByItsRow : Type 0
LocAnswersByItsRow = (s : Script) (history : List Entry) (end : Cell) → RunsTo history s end → EachEntry (IsByRow (start s).loc.state) (set_up_entry s ∷ []) history
