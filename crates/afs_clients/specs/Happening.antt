-- What comes of an input at a client, which input an event is, and the entry that tells a step.
use Rattle.std.specs.Prelude.{◌≡◌, ◌≤◌, ◌+◌, ◌⊎◌, ℕ, List, [], ◌∷◌, ◌++◌, Bool, true, false, drop, slice_get, Option, Some, None}
use Rattle.afs_num.specs.Nodes.{same_node}
use Rattle.afs_num.specs.Places.{at_place}
use Rattle.afs_num.specs.declared.histories.Actor.TheVariants as actors
use Rattle.afs_num.specs.declared.messages.Message.{Message}
use Rattle.afs_num.specs.declared.messages.Received.TheVariants.{Whole}
use Rattle.afs_num.specs.declared.types.Node.{Node}
use Rattle.afs_num.specs.declared.types.Node.TheVariants.{Admin, Client}
use Rattle.spec_history.specs.declared.acts.Act.{Act}
use Rattle.spec_history.specs.declared.lines.Entry as kept
use Rattle.spec_history.specs.declared.lines.Line.{Line}
use Rattle.spec_history.specs.declared.lines.Line.TheVariants as lines
use Rattle.spec_history.specs.declared.lines.Outs.{Outs}
use Rattle.spec_history.specs.declared.scripts.Event.TheVariants as events
use Rattle.spec_history.specs.declared.scripts.Script.{Script}
use Rattle.spec_model.specs.Messages.{messages_spelled, parcels_read, received}
use Rattle.spec_copyrows.specs.CopyRow.{copies_reborn, copy_begin_row, copy_row}
use Rattle.spec_copyrows.specs.Sites.{CopyState}
use Rattle.spec_rows.specs.ClientRow.{act_of}
use Rattle.spec_rows.specs.Going.{ClientState, Going}
use Rattle.spec_rows.specs.Runs.{locations, server_waits, sets_fail, sets_stop, starts_again, stops, wakes, Outcome}
use Rattle.spec_runs.specs.NodeRuns.{usual, CellInput}
use Rattle.spec_rows.specs.Steps.{Step}
use Rattle.afs_schedule.specs.Schedules.{server_input, client_act, IsInput, IsRestart, ScheduleState}
pub use Rattle.afs_cache.specs.Managing.{copy_seek_times_out, copy_times_out}
use Rattle.afs_clients.specs.Places.{put_place}
use Rattle.afs_clients.specs.Seating.{IsHanded}
use Rattle.afs_clients.specs.declared.clients.ClientSeat.{ClientSeat}
use Rattle.afs_clients.specs.declared.happening.AdminInput.{AdminInput}
use Rattle.afs_clients.specs.declared.happening.AdminInput.TheVariants as admin
use Rattle.afs_clients.specs.declared.happening.ClientInput.{ClientInput}
use Rattle.afs_clients.specs.declared.happening.ClientInput.TheVariants as client
use Rattle.afs_clients.specs.declared.happening.DatabaseInput.{DatabaseInput}
use Rattle.afs_clients.specs.declared.happening.DatabaseInput.TheVariants as database
use Rattle.afs_clients.specs.declared.happening.Happened.{Happened}
use Rattle.afs_clients.specs.declared.happening.Happened.TheVariants as happened
use Rattle.afs_clients.specs.declared.happening.ServerInput.{ServerInput}
use Rattle.afs_clients.specs.declared.happening.ServerInput.TheVariants as server

-- ---- events

-- which input of the cell it is, at a server and at the location database: a restart leaves open whether the disk fails, and what it kept where it had failed by itself
abbrev pub IsGiven : ℕ → ServerInput → ScheduleState → CellInput → Type 0
IsGiven i (server.TimeOut callee) t x = x ≡ usual (server_waits i callee)
IsGiven i server.Wake t x = x ≡ usual (wakes i)
IsGiven i (server.Crash pick) t x = x ≡ usual (server_input i (stops i))
IsGiven i server.Restart t x = IsRestart (t.cell.hosts i).down (λ (after : Bool) (outcome : Outcome). usual (server_input i (starts_again i after outcome))) x
IsGiven i (server.Stop calls pick) t x = x ≡ usual (server_input i (sets_stop i calls pick))
IsGiven i (server.Fail call) t x = x ≡ usual (server_input i (sets_fail i call))

abbrev pub IsGivenToLoc : DatabaseInput → ScheduleState → CellInput → Type 0
IsGivenToLoc (database.Crash pick) t x = x ≡ usual (stops 0)
IsGivenToLoc database.Restart t x = IsRestart t.cell.loc.down (λ (after : Bool) (outcome : Outcome). usual (starts_again 0 after outcome)) x
IsGivenToLoc (database.Stop calls pick) t x = x ≡ usual (sets_stop 0 calls pick)
IsGivenToLoc (database.Fail call) t x = x ≡ usual (sets_fail 0 call)

-- a failure is due at a call that is yet to come
abbrev pub IsDue : ServerInput → Type 0
IsDue (server.Fail call) = 1 ≤ call
IsDue input = Unit {0}

abbrev pub IsDueAtLoc : DatabaseInput → Type 0
IsDueAtLoc (database.Fail call) = 1 ≤ call
IsDueAtLoc input = Unit {0}

-- there is none of this number
pub record NoneHappened {A : Type 0} (i : ℕ) (old new : List A) (what : Happened) : Type 0 where
  pub none : at_place old i ≡ None
  pub same : new ≡ old
  pub nothing : what ≡ happened.Nothing

-- ---- clients

-- the client made this step of its row, and gave this out behind these lines; what it was handed stays
pub record ClientMakes (front : List Line) (step : Step CopyState) (old new : ClientSeat) (outs : Outs) : Type 0 where
  pub up : old.is_away ≡ false
  pub stays_up : new.is_away ≡ false
  pub state : new.client.state ≡ step.state
  pub lines : front ++ outs.lines ≡ step.lines
  pub sent : parcels_read outs.parcels ≡ messages_spelled step.sent

-- it tells this one line and sends nothing
pub record ClientTells (line : Line) (outs : Outs) : Type 0 where
  pub lines : outs.lines ≡ line ∷ []
  pub sent : outs.parcels ≡ []

pub record HasBegun (n clock : ℕ) (old new : ClientSeat) (outs : Outs) : Type 0 where
  pub act : Act
  pub next : client_act (slice_get old.plan 0) ≡ Some act
  pub plan : new.plan ≡ drop 1 old.plan
  pub idle : act_of old.client.state.client ≡ None
  pub makes : ClientMakes [] (copy_begin_row (Client n) old.client.state clock act) old new outs

pub record HasTimedOut (n : ℕ) (callee : Node) (old new : ClientSeat) (outs : Outs) : Type 0 where
  pub act : Going
  pub waits : act_of old.client.state.client ≡ Some act
  pub callee_is : same_node old.client.state.client.callee callee ≡ true
  pub makes : ClientMakes [] (copy_times_out (Client n) old.client.state old.client.state.client.running) old new outs
  pub plan : new.plan ≡ old.plan

-- it will begin with the script's table
pub record HasFallen (s : Script) (n : ℕ) (old new : ClientSeat) (outs : Outs) : Type 0 where
  pub up : old.is_away ≡ false
  pub away : new.is_away ≡ true
  pub state : new.client.state ≡ copies_reborn (locations s) old.client.state
  pub plan : new.plan ≡ old.plan
  pub tells : ClientTells (lines.Crash (Client n)) outs

pub record HasRisen (n : ℕ) (old new : ClientSeat) (outs : Outs) : Type 0 where
  pub away : old.is_away ≡ true
  pub up : new.is_away ≡ false
  pub state : new.client.state ≡ old.client.state
  pub plan : new.plan ≡ old.plan
  pub tells : ClientTells (lines.Restart (Client n) old.client.state.client.epoch) outs

pub record ClientHears (n clock place : ℕ) (bytes : List ℕ) (old new : ClientSeat) (outs : Outs) : Type 0 where
  pub makes : (m : Message) → received bytes ≡ Whole m → ClientMakes (lines.Given place ∷ []) (copy_row (Client n) old.client.state clock place (Whole m)) old new outs
  pub plan : new.plan ≡ old.plan

abbrev pub ClientTakes : Script → ℕ → ℕ → ClientInput → ClientSeat → ClientSeat → Outs → Type 0
ClientTakes s n clock client.Act old new outs = HasBegun n clock old new outs
ClientTakes s n clock (client.TimeOut callee) old new outs = HasTimedOut n callee old new outs
ClientTakes s n clock client.Crash old new outs = HasFallen s n old new outs
ClientTakes s n clock client.Restart old new outs = HasRisen n old new outs

-- the event that gives a client this
abbrev pub IsBegunOrGiven : ClientInput → ℕ → ScheduleState → CellInput → Type 0
IsBegunOrGiven client.Act n t x = IsInput t (events.Act (Client n)) x
IsBegunOrGiven (client.TimeOut callee) n t x = IsInput t (events.Timeout (Client n) callee) x
IsBegunOrGiven client.Crash n t x = IsInput t (events.Crash (Client n)) x
IsBegunOrGiven client.Restart n t x = IsInput t (events.Restart (Client n)) x

-- the event that gives an administrator this
abbrev pub IsAskedOfAdmin : AdminInput → ℕ → ScheduleState → CellInput → Type 0
IsAskedOfAdmin admin.Act n t x = IsInput t (events.Act (Admin n)) x
IsAskedOfAdmin (admin.TimeOut callee) n t x = IsInput t (events.Timeout (Admin n) callee) x
IsAskedOfAdmin admin.Crash n t x = IsInput t (events.Crash (Admin n)) x
IsAskedOfAdmin admin.Restart n t x = IsInput t (events.Restart (Admin n)) x

-- nothing comes of this at the client
abbrev pub IsBusy : ClientState → Type 0
IsBusy c = (act : Going) × (act_of c ≡ Some act)

abbrev pub IsVoidClient : ClientInput → ClientSeat → Type 0
IsVoidClient client.Act seat = (seat.is_away ≡ true) ⊎ (IsBusy seat.client.state.client ⊎ (client_act (slice_get seat.plan 0) ≡ None))
IsVoidClient (client.TimeOut callee) seat = (seat.is_away ≡ true) ⊎ ((act_of seat.client.state.client ≡ None) ⊎ (same_node seat.client.state.client.callee callee ≡ false))
IsVoidClient client.Crash seat = seat.is_away ≡ true
IsVoidClient client.Restart seat = seat.is_away ≡ false

-- at the seat of a node without a disk: nothing comes of it, it takes a step, or memory was wanting, and the seat is as it was
abbrev pub DisklessHappens : {A : Type 0} → (A → Type 0) → (A → A → Outs → Type 0) → A → A → Happened → Type 0
DisklessHappens IsVoid Takes old new happened.Nothing = (new ≡ old) × IsVoid old
DisklessHappens IsVoid Takes old new (happened.Step outs) = Takes old new outs
DisklessHappens IsVoid Takes old new happened.Unchanged = new ≡ old
DisklessHappens IsVoid Takes old new happened.Lost = ⊥

abbrev pub ClientHappens : (ClientSeat → Type 0) → (ClientSeat → ClientSeat → Outs → Type 0) → ClientSeat → ClientSeat → Happened → Type 0
ClientHappens IsVoid Takes old new what = DisklessHappens IsVoid Takes old new what

-- what it was handed stays; its call and its epoch are the next ones at most
pub record ClientGoes (s : Script) (n : ℕ) (old new : ClientSeat) (what : Happened) : Type 0 where
  pub handed : IsHanded s n new
  pub epoch : new.epoch ≤ old.epoch + 1
  pub last : new.client.state.client.last ≤ old.client.state.client.last + 1

pub record ClientHappened (s : Script) (n : ℕ) (IsVoid : ClientSeat → Type 0) (Takes : ClientSeat → ClientSeat → Outs → Type 0) (old new : List ClientSeat) (what : Happened) : Type 0 where
  pub was : ClientSeat
  pub now : ClientSeat
  pub found : at_place old n ≡ Some was
  pub put : new ≡ put_place n now old
  pub happens : ClientHappens IsVoid Takes was now what
  pub goes : ClientGoes s n was now what

abbrev pub ClientsHappened : Script → ℕ → (ClientSeat → Type 0) → (ClientSeat → ClientSeat → Outs → Type 0) → List ClientSeat → List ClientSeat → Happened → Type 0
ClientsHappened s n IsVoid Takes old new what = NoneHappened n old new what ⊎ ClientHappened s n IsVoid Takes old new what

-- ---- what is told of it

-- a line that comes first, if there is one
abbrev pub front_lines : Option Line → List Line
front_lines None = []
front_lines (Some l) = l ∷ []

abbrev pub entry_of : Node → List Line → ℕ → kept.Entry
entry_of node ls sent = record { actor = actors.Node node; lines = ls; sent = sent }

abbrev pub void_entry : kept.Entry
void_entry = record { actor = actors.Nobody; lines = lines.Void ∷ []; sent = 0 }
