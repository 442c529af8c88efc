-- A file server in memory, and the state of its row that it stands for beside what its store keeps.
use Rattle.std.specs.Prelude.{◌≡◌, ◌<◌, ◌+◌, ℕ, List, [], length, Option}
use Rattle.std.specs.List.{All}
use Rattle.std.specs.Option.{option_map}
use Rattle.afs_num.specs.Nodes.{IsNode}
use Rattle.afs_num.specs.declared.types.Key.{Key}
use Rattle.afs_num.specs.declared.types.Node.{Node}
use Rattle.spec_records.specs.Durable.{Durable}
use Rattle.spec_breaks.specs.Promises.{Lists, no_lists}
use Rattle.spec_breaks.specs.declared.types.OwedBreak.{OwedBreak}
use Rattle.spec_rows.specs.Callbacks.{first_backs, risen_turn}
use Rattle.spec_rows.specs.ServerSteps.{stepped}
use Rattle.spec_rows.specs.Steps.{Step}
use Rattle.spec_rows.specs.States.{BackCall, Backs, Held, Seat, ServerState}
use Rattle.afs_callees.specs.Called.{call_to, AreGoodCalls, Callee}
use Rattle.afs_server_parts.specs.Turning.{IsBreakToNode}
use Rattle.afs_callbacks.specs.States.{backs_at, CallbackState, IsPromiseToNode}
use Rattle.afs_sharing.specs.Lasting.{KeepsForNodes}
pub use Rattle.afs_sharing.specs.Lasting.{lasting_of}

pub record Memory : Type 0 where
  pub boot : ℕ
  pub seats : List Seat
  pub lists : Lists
  pub callees : List (Callee (List OwedBreak))
  pub held : List Held

-- in the first boot, with no callers, no promises and nothing owed
abbrev pub first_memory : Memory
first_memory = record { boot = 1; seats = []; lists = no_lists; callees = []; held = [] }

-- its callbacks
abbrev pub callbacks_of : Memory → CallbackState
callbacks_of m = record { lists = m.lists; callees = m.callees; held = m.held }

-- with the last number of its own calls, which its store draws
abbrev pub backs_seen : Memory → ℕ → Backs
backs_seen m drawn = backs_at (callbacks_of m) drawn

-- and with what is on the disk
abbrev pub state_seen : Memory → Durable → ℕ → ServerState
state_seen m d drawn = record { lasting = lasting_of d; seats = m.seats; backs = backs_seen m drawn }

-- the key of an unanswered call of this node
abbrev pub key_called : Node → ℕ → BackCall → Key
key_called me boot c = record { node = me; epoch = boot; number = c.number }

abbrev pub waits_by : Node → Memory → Node → Option Key
waits_by me m n = option_map (key_called me m.boot) (call_to m.callees n)

-- ---- a restart

-- its callers are those whose replies are kept
abbrev pub begun_state : Durable → ServerState
begun_state d = record { lasting = lasting_of d; seats = (lasting_of d).kept; backs = first_backs }

-- what a start does over a store that has begun its boot
abbrev pub begun_step : Node → Durable → ℕ → ℕ → Step ServerState
begun_step me d clock count = stepped me (begun_state d) (risen_turn me clock count).lines (risen_turn me clock count)

-- ---- what a server and its store keep together

-- The numbers that a server draws in memory stand below four billion: those of its own calls, and those of owed breaks with the
-- promises that are held added to them.
pub record CanDraw (m : Memory) (drawn : ℕ) : Type 0 where
  pub calls : drawn < 4000000000
  pub breaks : m.lists.last_owed + length m.lists.promises < 4000000000

-- The server `me` is in the boot that its store keeps; what it promised, owes, calls and keeps is of nodes of the cell.
pub record Serves (me : Node) (m : Memory) (d : Durable) : Type 0 where
  pub node : IsNode me
  pub boot : m.boot ≡ d.boot
  pub kept : KeepsForNodes d
  pub promises : All IsPromiseToNode m.lists.promises
  pub owed : All IsBreakToNode m.lists.owed
  pub calls : AreGoodCalls m.callees
