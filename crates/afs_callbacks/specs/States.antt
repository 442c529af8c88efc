-- A file server's callbacks: its promises and the breaks that it owes, the nodes that it calls, and replies that wait.
use Rattle.std.specs.Prelude.{ℕ, List, [], map}
use Rattle.std.specs.List.{All}
use Rattle.afs_num.specs.Nodes.{IsNode}
use Rattle.afs_num.specs.declared.types.Node.{Node}
use Rattle.spec_breaks.specs.declared.types.OwedBreak.{OwedBreak}
use Rattle.spec_breaks.specs.declared.types.Promise.{Promise}
use Rattle.spec_breaks.specs.Promises.{Lists, no_lists}
use Rattle.spec_rows.specs.Callbacks as row
use Rattle.spec_rows.specs.Callbacks.{first_backs, owe_line}
use Rattle.spec_rows.specs.States.{Backs, Held}
use Rattle.afs_callees.specs.Called.{call_to, known_to, AreGoodCalls, Callee}
use Rattle.afs_server_parts.specs.Turning.{IsBreakToNode}
use Rattle.afs_server_parts.specs.declared.turns.Stand.{Stand}

pub record CallbackState : Type 0 where
  pub lists : Lists
  pub callees : List (Callee (List OwedBreak))
  pub held : List Held

-- nothing is promised, owed, called or held
abbrev pub no_callbacks : CallbackState
no_callbacks = record { lists = no_lists; callees = []; held = [] }

-- with the last number of the server's own calls
abbrev pub backs_at : CallbackState → ℕ → Backs
backs_at k last = record { lists = k.lists; last_call = last; calls = call_to k.callees; known = known_to k.callees; held = k.held }

-- those of a server that stands so, at this time
abbrev pub backs_by : CallbackState → Stand → ℕ → Backs
backs_by k s now = row.expired now (backs_at k s.last)

-- ---- a server that begins again

-- with these breaks on all
abbrev pub risen_with : Node → Lists → row.CallbackStep
risen_with me l = record { backs = record first_backs { lists = l }; lines = map (owe_line me) l.owed; sent = []; outs = [] }

-- ---- whose they are

abbrev pub IsPromiseToNode : Promise → Type 0
IsPromiseToNode p = IsNode p.client

-- what it promised, owes and calls is of nodes of the cell
pub record IsToNodes (me : Node) (k : CallbackState) : Type 0 where
  pub node : IsNode me
  pub owed : All IsBreakToNode k.lists.owed
  pub calls : AreGoodCalls k.callees
