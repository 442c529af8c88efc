-- What is left after the end of a step.
use Rattle.std.specs.List.{All}
use Rattle.std.specs.Prelude.{◌≡◌, ◌≤◌, List}
use Rattle.spec_history.specs.declared.lines.Line.{Line}
use Rattle.spec_breaks.specs.Promises.{Lists}
use Rattle.spec_model.specs.Messages.{messages_spelled, parcels_read}
use Rattle.spec_rows.specs.Callbacks as row
use Rattle.spec_rows.specs.Callbacks.{pumped, Started}
use Rattle.spec_rows.specs.States.{Backs}
use Rattle.afs_callees.specs.Called.{call_to, known_to, AreGoodCalls}
use Rattle.afs_server_parts.specs.Turning.{IsBreakToNode}
use Rattle.afs_server_parts.specs.declared.ending.Ended.{Ended}
use Rattle.afs_server_parts.specs.declared.turns.Stand.{Stand}

abbrev pub backs_left : Lists → Ended → Backs
backs_left l e = record { lists = l; last_call = e.last; calls = call_to e.callees.items; known = known_to e.callees.items; held = e.held }

-- with these promises and owed breaks it is what the row leaves and sends
pub record Ends (l : Lists) (s : Started) (e : Ended) : Type 0 where
  pub backs : backs_left l e ≡ s.backs
  pub sent : parcels_read e.outs.parcels ≡ messages_spelled s.sent

-- What comes of this turn of a node that stands so: what its row leaves and sends, and these lines. Numbers of calls are drawn
-- behind the last one; what is owed and called is of nodes of the cell.
pub record IsPlan (s : Stand) (t : row.CallbackStep) (ls : List Line) (e : Ended) : Type 0 where
  pub ends : Ends t.backs.lists (pumped s.node s.boot t) e
  pub lines : e.outs.lines ≡ ls
  pub drawn : s.last ≤ e.last
  pub owed : All IsBreakToNode t.backs.lists.owed
  pub calls : AreGoodCalls e.callees.items

-- with the lines of the turn itself
abbrev pub IsPlanOf : Stand → row.CallbackStep → Ended → Type 0
IsPlanOf s t e = IsPlan s t t.lines e
