-- How a schedule is played: which input an event is.
use Rattle.spec_rows.specs.Hosts.{IsLuck}
use Rattle.std.specs.Prelude.{◌≡◌, ℕ, zero, suc, ◌+◌, List, [], ◌∷◌, length, drop, Bool, true, false, not, ◌&&◌, Option, Some, None, nat_eq, slice_get, if◌then◌else◌}
use Rattle.std.specs.List.{list_any}
use Rattle.afs_num.specs.Nodes.{same_node}
use Rattle.afs_num.specs.declared.types.Node.{Node}
use Rattle.afs_num.specs.declared.types.Node.TheVariants.{Loc, Server, Client, Admin}
use Rattle.spec_history.specs.declared.acts.Act.{Act}
use Rattle.spec_history.specs.declared.scripts.AdminAct.{AdminAct}
use Rattle.spec_history.specs.declared.scripts.Event.{Event}
use Rattle.spec_history.specs.declared.scripts.Event.TheVariants as events
use Rattle.spec_history.specs.declared.scripts.Script.{Script}
use Rattle.spec_history.specs.declared.scripts.Task.{Task}
use Rattle.spec_history.specs.declared.scripts.Task.TheVariants as tasks
use Rattle.spec_rows.specs.Callbacks.{put_at}
use Rattle.spec_rows.specs.ClientRow.{act_of}
use Rattle.spec_rows.specs.Going.{ClientState, Going}
use Rattle.spec_rows.specs.Runs.{begins, client_starts, client_stops, gives, nothing, server_waits, sets_fail, sets_stop, starts_again, stops, ticks, waits, wakes, Fall, Input, Luck, MayBegin, Outcome}
use Rattle.spec_adminrows.specs.AdminRow.{waiting_on, AdminState}
use Rattle.spec_adminrows.specs.declared.turns.Running.{Running}
use Rattle.spec_runs.specs.NodeRuns.{admin_begins, admin_starts, admin_stops, admin_waits, is_away, is_gone, node_moved, node_start, usual, CellInput, NodeCell}

-- ---- a schedule under way: the cell, what each client and each administrator has not begun, and the places that a deliver named

pub record ScheduleState : Type 0 where
  pub cell : NodeCell
  pub left : Node → List Task
  pub named : List ℕ

-- who is to do it
abbrev pub doer : Task → Node
doer (tasks.Client n act) = Client n
doer (tasks.Admin n act) = Admin n

-- what a node is to do, in the script's order
abbrev pub tasks_of : Node → List Task → List Task
tasks_of n [] = []
tasks_of n (t ∷ ts) = if same_node (doer t) n then t ∷ tasks_of n ts else tasks_of n ts

-- the act of a client, where a task is one
abbrev pub client_act : Option Task → Option Act
client_act None = None
client_act (Some (tasks.Client n act)) = Some act
client_act (Some (tasks.Admin n act)) = None

-- that of an administrator
abbrev pub admin_act : Option Task → Option AdminAct
admin_act None = None
admin_act (Some (tasks.Client n act)) = None
admin_act (Some (tasks.Admin n act)) = Some act

abbrev pub first_turn : Script → ScheduleState
first_turn s = record { cell = node_start s; left = λ n. tasks_of n s.tasks; named = [] }

-- ---- drains

-- the lowest place from this one on, of so many, that isn't among those named
abbrev pub lowest : ℕ → ℕ → List ℕ → Option ℕ
lowest zero place named = None
lowest (suc more) place named = if list_any (nat_eq place) named then lowest more (place + 1) named else Some place

-- the lowest place of a message that was sent and never named
abbrev pub waiting : ScheduleState → Option ℕ
waiting t = lowest (length t.cell.sent) 1 t.named

-- the first event, and those behind it
abbrev pub first_of : List Event → Option (Event × List Event)
first_of [] = None
first_of (e ∷ es) = Some (e, es)

-- What is played next, and what is left then. A drain is the delivery of the lowest place that was never named, and stays until
-- there is none.
abbrev pub next_event : Option ℕ → List Event → Option (Event × List Event)
next_event low [] = None
next_event (Some place) (events.Drain ∷ es) = Some (events.Deliver place, events.Drain ∷ es)
next_event None (events.Drain ∷ es) = next_event None es
next_event low (e ∷ es) = Some (e, es)

-- ---- an event is an input

abbrev pub is_idle : Option Going → Bool
is_idle None = true
is_idle (Some act) = false

-- a client that is up and idle begins its next act; else nothing happens
abbrev pub act_input : NodeCell → ℕ → Option Act → Input
act_input c n None = nothing
act_input c n (Some act) = if not (is_away c n) && is_idle (act_of (c.clients n).client) then begins n act else nothing

-- only the call to this node times out
abbrev pub timeout_input : ClientState → ℕ → Node → Input
timeout_input c n callee = if same_node c.callee callee then waits n else nothing

-- so it is with an administrator
abbrev pub is_at_rest : Option Running → Bool
is_at_rest None = true
is_at_rest (Some act) = false

abbrev pub admin_act_input : NodeCell → ℕ → Option AdminAct → CellInput
admin_act_input c n None = usual nothing
admin_act_input c n (Some act) = if not (is_gone c n) && is_at_rest (c.admins n).running then admin_begins n act else usual nothing

abbrev pub is_waiting_on : Node → Option Node → Bool
is_waiting_on callee None = false
is_waiting_on callee (Some node) = same_node node callee

abbrev pub admin_timeout_input : AdminState → ℕ → Node → CellInput
admin_timeout_input a n callee = if is_waiting_on callee (waiting_on a) then admin_waits n else usual nothing

-- Servers are numbered from 1; number 0 of the inputs that stop a node with a disk, let it begin again or set its disk is the location
-- database, which has a name of its own in events. So an event that names server 0, which no cell has, is nothing.
abbrev pub server_input : ℕ → Input → Input
server_input zero x = nothing
server_input (suc i) x = x

-- how a node with a disk begins again: before the interrupted step or after it
abbrev pub IsRestart : Option Fall → (Bool → Outcome → CellInput) → CellInput → Type 0
IsRestart down begun x = (after : Bool) × ((outcome : Outcome) × (MayBegin down after × (x ≡ begun after outcome)))

-- What each event is. A delivery leaves open whether the disk fails by itself. So does a restart of a node with a disk: it begins before
-- the interrupted step or after it as the blow tells that ended it, where the disk was set to that, and this is open where it failed by
-- itself.
abbrev pub IsInput : ScheduleState → Event → CellInput → Type 0
IsInput t (events.Act (Client n)) x = x ≡ usual (act_input t.cell n (client_act (slice_get (t.left (Client n)) 0)))
IsInput t (events.Act (Admin n)) x = x ≡ admin_act_input t.cell n (admin_act (slice_get (t.left (Admin n)) 0))
IsInput t (events.Act node) x = x ≡ usual nothing
IsInput t (events.Deliver place) x = (luck : Luck) × ((x ≡ usual (gives place luck)) × IsLuck luck)
IsInput t events.Drain x = ⊥
IsInput t (events.Timeout (Client n) callee) x = x ≡ usual (timeout_input (t.cell.clients n).client n callee)
IsInput t (events.Timeout (Admin n) callee) x = x ≡ admin_timeout_input (t.cell.admins n) n callee
IsInput t (events.Timeout (Server i) callee) x = x ≡ usual (server_waits i callee)
IsInput t (events.Timeout Loc callee) x = x ≡ usual nothing
IsInput t (events.Wake i) x = x ≡ usual (wakes i)
IsInput t (events.Tick n) x = x ≡ usual (ticks n)
IsInput t (events.Crash (Client n)) x = x ≡ usual (client_stops n)
IsInput t (events.Crash (Admin n)) x = x ≡ admin_stops n
IsInput t (events.Crash node) x = x ≡ usual nothing
IsInput t (events.CrashDisk (Server i) pick) x = x ≡ usual (server_input i (stops i))
IsInput t (events.CrashDisk Loc pick) x = x ≡ usual (stops 0)
IsInput t (events.CrashDisk node pick) x = x ≡ usual nothing
IsInput t (events.Restart (Client n)) x = x ≡ usual (client_starts n)
IsInput t (events.Restart (Admin n)) x = x ≡ admin_starts n
IsInput t (events.Restart (Server i)) x = IsRestart (t.cell.hosts i).down (λ (after : Bool) (outcome : Outcome). usual (server_input i (starts_again i after outcome))) x
IsInput t (events.Restart Loc) x = IsRestart t.cell.loc.down (λ (after : Bool) (outcome : Outcome). usual (starts_again 0 after outcome)) x
IsInput t (events.Stop (Server i) calls pick) x = x ≡ usual (server_input i (sets_stop i calls pick))
IsInput t (events.Stop Loc calls pick) x = x ≡ usual (sets_stop 0 calls pick)
IsInput t (events.Stop node calls pick) x = x ≡ usual nothing
IsInput t (events.Fail (Server i) call) x = x ≡ usual (server_input i (sets_fail i call))
IsInput t (events.Fail Loc call) x = x ≡ usual (sets_fail 0 call)
IsInput t (events.Fail node call) x = x ≡ usual nothing

-- ---- a schedule is a list of inputs

-- an act that has begun is no longer left
abbrev pub left_by : CellInput → (Node → List Task) → Node → List Task
left_by (usual (begins n act)) left = put_at (Client n) (drop 1 (left (Client n))) left
left_by (admin_begins n act) left = put_at (Admin n) (drop 1 (left (Admin n))) left
left_by x left = left

-- a deliver names its place, whether something is there or not
abbrev pub named_by : Event → List ℕ → List ℕ
named_by (events.Deliver place) named = place ∷ named
named_by e named = named

abbrev pub schedule_behind : ScheduleState → Event → CellInput → ScheduleState
schedule_behind t e x = record { cell = (node_moved t.cell x).cell; left = left_by x t.left; named = named_by e t.named }

-- an input is the event that comes next, and the rest goes on behind it
abbrev pub IsNext : ScheduleState → Option (Event × List Event) → CellInput → (ScheduleState → List Event → Type 0) → Type 0
IsNext t None x rest = ⊥
IsNext t (Some e) x rest = IsInput t e.0 x × rest (schedule_behind t e.0 x) e.1

-- these inputs are the events, one for one, with each drain as its deliveries, and none is left
abbrev pub AreInputs : ScheduleState → List Event → List CellInput → Type 0
AreInputs t es [] = next_event (waiting t) es ≡ None
AreInputs t es (x ∷ xs) = IsNext t (next_event (waiting t) es) x (λ u more. AreInputs u more xs)

-- they are the first of them, and an event is left
abbrev pub AreFirst : ScheduleState → List Event → List CellInput → Type 0
AreFirst t es [] = next_event (waiting t) es ≡ None → ⊥
AreFirst t es (x ∷ xs) = IsNext t (next_event (waiting t) es) x (λ u more. AreFirst u more xs)

-- a script without a schedule has no events
abbrev pub events_in : Option (List Event) → List Event
events_in None = []
events_in (Some es) = es

abbrev pub events_of : Script → List Event
events_of s = events_in s.schedule
