-- What an event gives to a node of the cell.
use Rattle.std.specs.Prelude.{◌≡◌, ◌≤◌, ℕ}
use Rattle.spec_history.specs.declared.scripts.Event.{Event}
use Rattle.spec_history.specs.declared.scripts.Event.TheVariants as events
use Rattle.afs_words.specs.declared.nodes.Counts.{Counts}
use Rattle.afs_grammar.specs.CellScripts.{FitsEvent}
use Rattle.spec_rows.specs.Runs.{nothing}
use Rattle.spec_runs.specs.NodeRuns.{usual, CellInput}
use Rattle.afs_schedule.specs.Schedules.{IsInput, ScheduleState}
use Rattle.afs_clients.specs.Happening.{IsBegunOrGiven, IsAskedOfAdmin, IsDue, IsDueAtLoc, IsGiven, IsGivenToLoc}
use Rattle.afs_clients.specs.declared.events.Given.{Given}
use Rattle.afs_clients.specs.declared.events.Given.TheVariants as given
use Rattle.afs_clients.specs.declared.happening.AdminInput.{AdminInput}
use Rattle.afs_clients.specs.declared.happening.ClientInput.{ClientInput}
use Rattle.afs_clients.specs.declared.happening.DatabaseInput.{DatabaseInput}
use Rattle.afs_clients.specs.declared.happening.ServerInput.{ServerInput}

-- an input of the client's is the event, and the client is one of the cell where the event fits it
pub record IsForClient (event : Event) (n : ℕ) (what : ClientInput) : Type 0 where
  pub input : (t : ScheduleState) (x : CellInput) → IsBegunOrGiven what n t x → IsInput t event x
  pub inside : (c : Counts) → FitsEvent c event → (1 ≤ n) × (n ≤ c.clients)

-- and of an administrator's
pub record IsForAdmin (event : Event) (n : ℕ) (what : AdminInput) : Type 0 where
  pub input : (t : ScheduleState) (x : CellInput) → IsAskedOfAdmin what n t x → IsInput t event x
  pub inside : (c : Counts) → FitsEvent c event → (1 ≤ n) × (n ≤ c.admins)

-- and of a server's, whose failure is due at a call to come
pub record IsForServer (event : Event) (i : ℕ) (what : ServerInput) : Type 0 where
  pub input : (t : ScheduleState) (x : CellInput) → IsGiven i what t x → IsInput t event x
  pub due : (c : Counts) → FitsEvent c event → IsDue what

-- and of the location database's
pub record IsForLoc (event : Event) (what : DatabaseInput) : Type 0 where
  pub input : (t : ScheduleState) (x : CellInput) → IsGivenToLoc what t x → IsInput t event x
  pub due : (c : Counts) → FitsEvent c event → IsDueAtLoc what

-- nothing is the event
abbrev pub IsForNone : Event → Type 0
IsForNone event = (t : ScheduleState) → IsInput t event (usual nothing)

abbrev pub IsMeant : Event → Given → Type 0
IsMeant event given.Nothing = IsForNone event
IsMeant event (given.Client n what) = IsForClient event n what
IsMeant event (given.Admin n what) = IsForAdmin event n what
IsMeant event (given.Server i what) = IsForServer event i what
IsMeant event (given.Database what) = IsForLoc event what
IsMeant event (given.Message place) = event ≡ events.Deliver place
IsMeant event (given.Ticks n) = event ≡ events.Tick n
