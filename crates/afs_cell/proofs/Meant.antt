-- An event is what it means.
use Rattle.std.proofs.Common.{refl, sym, subst, ◌≡◌, ◌≤◌, ◌<◌, ◌+◌, inl, ℕ, List, length, true, false, Option, Result}
use Rattle.spec_history.specs.declared.scripts.Event.{Event}
use Rattle.spec_history.specs.declared.scripts.Event.TheVariants as events
use Rattle.afs_grammar.specs.CellScripts.{counts_of, FitsEvent}
use Rattle.afs_grammar.specs.Lines.{ticks_of}
use Rattle.afs_schedule.specs.Schedules.{IsInput, ScheduleState}
use Rattle.afs_clients.specs.Happening.{IsBegunOrGiven, IsAskedOfAdmin, IsGiven, IsGivenToLoc}
use Rattle.afs_cell.specs.Happening.{NothingSettles}
use Rattle.afs_clients.specs.Meaning.{IsMeant}
use Rattle.afs_cell.specs.Steps.{Stays, Stepped}
use Rattle.afs_cell.specs.Worlds.{most_history_entries, most_ticks, IsSafe, WorldState}
use Rattle.afs_clients.specs.declared.events.Given.TheVariants as given
use Rattle.afs_cell.specs.declared.faults.WorldFault.{WorldFault}
use Rattle.afs_cell.specs.declared.faults.WorldFault.TheVariants as faulty
use Rattle.afs_clients.specs.declared.happening.AdminInput.{AdminInput}
use Rattle.afs_clients.specs.declared.happening.ClientInput.{ClientInput}
use Rattle.afs_clients.specs.declared.happening.DatabaseInput.{DatabaseInput}
use Rattle.afs_clients.specs.declared.happening.ServerInput.{ServerInput}
use Rattle.afs_cell.proofs.Eventful.{skip_steps, stepped_as}

module _ {D : Type 0} (seen : D → Option (List ℕ)) (may_leave : D → List ℕ → Type 0) (faults limit : D → ℕ) (w new : WorldState D) (result : Result (Unit {0}) WorldFault) (event : Event) where
  abbrev pub Played : Type 0
  Played = Stepped seen may_leave faults limit w.script (λ (t : ScheduleState). IsInput t event) w new result

  pub as_nothing : IsSafe limit w.script w → w.is_lost ≡ false → length w.history < most_history_entries → IsMeant event given.Nothing → NothingSettles w new result → Played
  as_nothing safe going few meant settles = skip_steps seen may_leave faults limit w.script (λ (t : ScheduleState). IsInput t event) w new result safe going few meant settles

  pub as_client : (n : ℕ) (what : ClientInput) → IsMeant event (given.Client n what) → Stepped seen may_leave faults limit w.script (IsBegunOrGiven what n) w new result → Played
  as_client n what meant stepped = stepped_as seen may_leave faults limit w.script (IsBegunOrGiven what n) (λ (t : ScheduleState). IsInput t event) w new result meant.input stepped

  pub as_admin : (n : ℕ) (what : AdminInput) → IsMeant event (given.Admin n what) → Stepped seen may_leave faults limit w.script (IsAskedOfAdmin what n) w new result → Played
  as_admin n what meant stepped = stepped_as seen may_leave faults limit w.script (IsAskedOfAdmin what n) (λ (t : ScheduleState). IsInput t event) w new result meant.input stepped

  pub as_server : (i : ℕ) (what : ServerInput) → IsMeant event (given.Server i what) → Stepped seen may_leave faults limit w.script (λ (t : ScheduleState). IsGiven i what t) w new result → Played
  as_server i what meant stepped = stepped_as seen may_leave faults limit w.script (λ (t : ScheduleState). IsGiven i what t) (λ (t : ScheduleState). IsInput t event) w new result meant.input stepped

  pub as_database : (what : DatabaseInput) → IsMeant event (given.Database what) → Stepped seen may_leave faults limit w.script (λ (t : ScheduleState). IsGivenToLoc what t) w new result → Played
  as_database what meant stepped = stepped_as seen may_leave faults limit w.script (λ (t : ScheduleState). IsGivenToLoc what t) (λ (t : ScheduleState). IsInput t event) w new result meant.input stepped

  pub as_message : (place : ℕ) → IsMeant event (given.Message place) → Stepped seen may_leave faults limit w.script (λ (t : ScheduleState). IsInput t (events.Deliver place)) w new result → Played
  as_message place meant stepped = subst (λ (e : Event). Stepped seen may_leave faults limit w.script (λ (t : ScheduleState). IsInput t e) w new result) (sym meant) stepped

  pub as_ticks : (n : ℕ) → IsMeant event (given.Ticks n) → Stepped seen may_leave faults limit w.script (λ (t : ScheduleState). IsInput t (events.Tick n)) w new result → Played
  as_ticks n meant stepped = subst (λ (e : Event). Stepped seen may_leave faults limit w.script (λ (t : ScheduleState). IsInput t e) w new result) (sym meant) stepped

-- what a tick needs, by its event
pub some_ticks : {D : Type 0} (w : WorldState D) (event : Event) (n : ℕ) → IsMeant event (given.Ticks n) → FitsEvent (counts_of w.script) event → 1 ≤ n
some_ticks {D} w event n meant fits = subst (λ (e : Event). FitsEvent (counts_of w.script) e) meant fits

pub ticks_within : {D : Type 0} (w : WorldState D) (event : Event) (n : ℕ) → IsMeant event (given.Ticks n) → w.clock + ticks_of event ≤ most_ticks → w.clock + n ≤ most_ticks
ticks_within {D} w event n meant within = subst (λ (e : Event). w.clock + ticks_of e ≤ most_ticks) meant within

pub clock_ticks : {D : Type 0} (w new : WorldState D) (event : Event) (n : ℕ) → IsMeant event (given.Ticks n) → new.clock ≤ w.clock + n → new.clock ≤ w.clock + ticks_of event
clock_ticks {D} w new event n meant h = subst (λ (e : Event). new.clock ≤ w.clock + ticks_of e) (sym meant) h

-- a cell that is lost stays as it is
pub lost_stays : {D : Type 0} (seen : D → Option (List ℕ)) (may_leave : D → List ℕ → Type 0) (limit : D → ℕ) (w : WorldState D) → w.is_lost ≡ true → Stays seen may_leave limit w w faulty.OutOfMemory
lost_stays {D} seen may_leave limit w lost = (record { script = refl; history = refl; wire = refl; clock = refl }, inl lost)
