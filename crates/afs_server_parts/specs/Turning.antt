-- What a step plans with a server's promises, calls and replies, and the turn of its row that this is.
use Rattle.std.specs.List.{All}
use Rattle.std.specs.Prelude.{◌≡◌, ◌≤◌, ℕ, List, [], ◌∷◌, Bool, true, false, ◌&&◌, Option, Some, None, Result, OnOk, if◌then◌else◌}
use Rattle.afs_num.specs.Nodes.{IsNode}
use Rattle.afs_num.specs.declared.messages.Message.{Message}
use Rattle.spec_breaks.specs.Promises.{Lists, without_break}
use Rattle.spec_breaks.specs.declared.types.OwedBreak.{OwedBreak}
use Rattle.spec_rows.specs.Callbacks as row
use Rattle.spec_rows.specs.Callbacks.{no_turn, Started}
use Rattle.spec_rows.specs.States.{Backs, Held}
use Rattle.afs_callees.specs.Called.{call_to, known_to, AreGoodCalls}
use Rattle.afs_server_parts.specs.declared.turns.Calls.{Calls}
use Rattle.afs_server_parts.specs.declared.turns.Stand.{Stand}
use Rattle.afs_server_parts.specs.declared.turns.Turn.{Turn}

-- without the breaks of these numbers
abbrev pub breaks_left : List OwedBreak → List OwedBreak → List OwedBreak
breaks_left [] os = os
breaks_left (b ∷ bs) os = breaks_left bs (without_break b.number os)

-- The promises stay where they are; a plan has the breaks that are owed after the step. With the lists as they then are, it is
-- the row's.
abbrev pub backs_with : Lists → List Held → Calls → Backs
backs_with l held c = record { lists = l; last_call = c.last; calls = call_to c.callees.items; known = known_to c.callees.items; held = held }

abbrev pub turn_with : Lists → Turn → row.CallbackStep
turn_with l t = record { backs = backs_with l t.held t.calls; lines = t.lines; sent = t.calls.sent; outs = t.outs }

abbrev pub started_with : Lists → List Held → Calls → Started
started_with l held c = record { backs = backs_with l held c; sent = c.sent }

-- the plan is this turn
pub record IsTurn (turn : row.CallbackStep) (t : Turn) : Type 0 where
  pub owed : turn.backs.lists.owed ≡ t.owed.items
  pub same : turn_with turn.backs.lists t ≡ turn

-- nothing has been told, sent or held so far
pub record IsFresh (t : Turn) : Type 0 where
  pub lines : t.lines ≡ []
  pub sent : t.calls.sent ≡ []
  pub outs : t.outs ≡ []

-- a break of which a node of the cell is told
abbrev pub IsBreakToNode : OwedBreak → Type 0
IsBreakToNode o = IsNode o.client

-- who makes it, what it owes and whom it calls are nodes of the cell, and it draws its calls behind the last one
pub record IsReady (t : Turn) : Type 0 where
  pub node : IsNode t.stand.node
  pub owed : All IsBreakToNode t.owed.items
  pub calls : AreGoodCalls t.calls.callees.items
  pub drawn : t.stand.last ≤ t.calls.last

-- What a turn has become in which nothing had happened: this turn of who makes it, with any promises that owe what it owed; and what
-- was ready is so. Where memory ran out it is only the same node's.
pub record Goes {T E : Type 0} (f : Stand → Backs → row.CallbackStep) (old new : Turn) (result : Result T E) : Type 0 where
  pub turn : OnOk result ((l : Lists) → l.owed ≡ old.owed.items → IsTurn (f old.stand (backs_with l old.held old.calls)) new)
  pub stand : new.stand ≡ old.stand
  pub ready : OnOk result (IsReady old → IsReady new)

-- a message goes out
abbrev pub sent_turn : Message → Backs → row.CallbackStep
sent_turn m b = record (no_turn b) { sent = m ∷ [] }

-- these messages go out
abbrev pub sent_turns : List Message → Backs → row.CallbackStep
sent_turns ms b = record (no_turn b) { sent = ms }

-- a reply goes out, now or once these breaks have ended
abbrev pub answer_turn : Message → List ℕ → Bool → Backs → row.CallbackStep
answer_turn reply waits again b = record (no_turn b) { outs = record { reply = reply; waits = waits; again = again } ∷ [] }

-- for which breaks a kept reply waits that is asked again, if it is given at all
abbrev pub waits_again : List OwedBreak → Option Held → Bool → Option (List ℕ)
waits_again os (Some h) good = if (h.again && row.is_ready os h) then Some h.waits else None
waits_again os None true = Some (row.alls os)
waits_again os None false = Some []
