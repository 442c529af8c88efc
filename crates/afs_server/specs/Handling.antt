-- What a call of a server's node gives.
use Rattle.std.specs.Prelude.{ℤ, false, ◌≡◌, ◌≤◌, ◌+◌, ℕ, List, [], ◌∷◌, ◌++◌, Option, Some, None, Result, Ok, Err}
use Rattle.spec_history.specs.declared.lines.Line.{Line}
use Rattle.spec_history.specs.declared.lines.Outs.{Outs}
use Rattle.afs_server_parts.specs.declared.faults.NodeFault.{NodeFault}
use Rattle.afs_server_parts.specs.declared.faults.NodeFault.TheVariants as faults
use Rattle.afs_num.specs.declared.records.StoreRecord.{StoreRecord}
use Rattle.spec_model.specs.Messages.{parcels_read, messages_spelled, received_by}
use Rattle.spec_ideal.specs.Tables.{Table}
use Rattle.afs_volstore.specs.Stores.{Store}
use Rattle.spec_rows.specs.Callbacks as row
use Rattle.spec_rows.specs.Callbacks.{turn_for, turned_in}
use Rattle.afs_num.specs.declared.types.Head.{Head}
use Rattle.afs_num.specs.declared.messages.Message.{Message}
use Rattle.afs_num.specs.declared.messages.Received.{Received}
use Rattle.spec_breaks.specs.Promises.{expired, Lists}
use Rattle.afs_callbacks.specs.Answering.{with_lists}
use Rattle.spec_rows.specs.ServerRow.{refusal, does, keeps, saves, record_of, Decision}
use Rattle.spec_rows.specs.ServerSteps.{stepped}
use Rattle.spec_rows.specs.States.{Backs, ServerState}
use Rattle.spec_rows.specs.Steps.{Step}
use Rattle.spec_volrows.specs.FileRow.{file_decides}
use Rattle.afs_server_parts.specs.Turning.{answer_turn}
use Rattle.afs_server.specs.Seen.{backs_seen, Memory, state_seen, Serves, CanDraw}
use Rattle.afs_sharing.specs.Stores.{IsClosed, SameStore}

-- the calls that it serves
abbrev pub calls_served : List ℕ
calls_served = 130 ∷ 131 ∷ 132 ∷ 133 ∷ 134 ∷ 135 ∷ 136 ∷ 137 ∷ 138 ∷ 139 ∷ 140 ∷ 141 ∷ 142 ∷ 147 ∷ 149 ∷ 153 ∷ 155 ∷ []

abbrev pub server_seen : {D : Type 0} → Memory → Store D → ServerState
server_seen {D} m s = state_seen m s.durable s.drawn

-- which volumes the transactions of its volume server hold
abbrev pub holds_seen : {D : Type 0} → Store D → Table ℕ
holds_seen {D} s = s.holds.table

-- the server over this store
abbrev pub ServesOver : {D : Type 0} → Memory → Store D → Type 0
ServesOver {D} m s = Serves s.node m s.durable

-- A server can make a step at this time over an open store: both keep together what they should, few numbers were drawn, and it
-- is early.
pub record CanStep {D : Type 0} (m : Memory) (s : Store D) (now : ℕ) : Type 0 where
  pub serves : ServesOver m s
  pub draws : CanDraw m s.drawn
  pub up : s.closed ≡ false
  pub soon : now ≤ 1000000000

-- what is promised, owed, called and held at this time
abbrev pub backs_then : {D : Type 0} → Memory → Store D → ℕ → Backs
backs_then {D} m s clock = row.expired clock (backs_seen m s.drawn)

-- the turn of what is decided, and that of what a message does besides
abbrev pub turn_then : {D : Type 0} → Memory → Store D → ℕ → Decision → row.CallbackStep
turn_then {D} m s clock d = turn_for s.node (server_seen m s) clock (backs_then m s clock) d

abbrev pub turned_then : {D : Type 0} → Memory → Store D → ℕ → Decision → Received → row.CallbackStep
turned_then {D} m s clock d received = turned_in s.node (server_seen m s) clock (backs_then m s clock) d received

-- The step was made: the new state is its, and so is what was given out. Its lines are these and then the node's.
pub record Makes {D : Type 0} (step : Step ServerState) (before : List Line) (m : Memory) (s : Store D) (outs : Outs) : Type 0 where
  pub state : server_seen m s ≡ step.state
  pub lines : before ++ outs.lines ≡ step.lines
  pub sent : parcels_read outs.parcels ≡ messages_spelled step.sent

-- The step was made; or memory was wanting, and the server and what its store keeps are as before; or the disk failed while
-- the step's record was written, and what the server had in memory is gone.
abbrev pub Handles : {D : Type 0} → Step ServerState → List Line → Memory → Memory → Store D → Store D → Result Outs NodeFault → Type 0
Handles {D} step before old new s t (Ok outs) = Makes step before new t outs
Handles {D} step before old new s t (Err faults.OutOfMemory) = (new ≡ old) × SameStore s t
Handles {D} step before old new s t (Err faults.Down) = IsClosed s t

-- A step was made that leaves what is on the disk as it is. Its callers are those of this state, these are its lines, and this
-- turn is all that it does else; what a server and its store keep together stays so. Or memory was wanting, and all is as before.
abbrev pub Steps : {D E : Type 0} → ServerState → List Line → row.CallbackStep → Memory → Memory → Store D → Store D → Result Outs E → Type 0
Steps {D} {E} state ls turn old new s t (Ok outs) =
    Makes (stepped s.node state ls turn) [] new t outs × (Serves t.node new t.durable × (t ≡ record s { drawn = t.drawn }))
Steps {D} {E} state ls turn old new s t (Err e) = (new ≡ old) × (t ≡ s)

-- no call runs in it
abbrev pub Turns : {D E : Type 0} → row.CallbackStep → Memory → Memory → Store D → Store D → Result Outs E → Type 0
Turns {D} {E} turn old new s t result = Steps (server_seen old s) turn.lines turn old new s t result

-- a call runs in it, and this is its reply
abbrev pub Answers : {D E : Type 0} → Head → Message → List Line → row.CallbackStep → Memory → Memory → Store D → Store D → Result Outs E → Type 0
Answers {D} {E} head reply ls turn old new s t result = Steps (keeps head reply (server_seen old s)) ls turn old new s t result

-- the reply goes out at once, and these promises are left
abbrev pub AnswersNow : {D E : Type 0} → Head → Message → List Line → Lists → Memory → Memory → Store D → Store D → Result Outs E → Type 0
AnswersNow {D} {E} head reply ls l old new s t result = Answers head reply ls (answer_turn reply [] false (with_lists l (backs_seen old s.drawn))) old new s t result

-- at this time it is a refusal with this code
abbrev pub RefusesNow : {D E : Type 0} → Head → ℤ → ℕ → Memory → Memory → Store D → Store D → Result Outs E → Type 0
RefusesNow {D} {E} head code clock old new s t result = AnswersNow head (refusal s.durable.boot head code) [] (expired clock old.lists) old new s t result

-- A step's lines behind that of its place.
abbrev pub lines_behind : List Line → List Line
lines_behind [] = []
lines_behind (l ∷ ls) = ls

-- what is decided is done, where that leaves the disk as it is
abbrev pub Does : {D E : Type 0} → ℕ → Decision → row.CallbackStep → Memory → Memory → Store D → Store D → Result Outs E → Type 0
Does {D} {E} clock d turn old new s t result =
    Steps (does s.node (server_seen old s) clock 0 d []).state (lines_behind (does s.node (server_seen old s) clock 0 d turn.lines).lines) turn old new s t result

-- ---- the disk

-- the record that a step makes, if it makes one
abbrev pub record_decided : ℕ → ℕ → Decision → Option StoreRecord
record_decided boot clock (saves head c) = Some (record_of boot head clock c)
record_decided boot clock d = None

-- what is decided at this time on the message of these bytes, and its record, if it makes one
abbrev pub decided_then : {D : Type 0} → Memory → Store D → ℕ → List ℕ → Decision
decided_then {D} m s clock bytes = file_decides s.node (holds_seen s) (server_seen m s) clock (received_by calls_served bytes)

abbrev pub record_then : {D : Type 0} → Memory → Store D → ℕ → List ℕ → Option StoreRecord
record_then {D} m s clock bytes = record_decided s.durable.boot clock (decided_then m s clock bytes)
