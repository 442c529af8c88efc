-- The next event of a schedule, whatever was let go before.
use Rattle.std.proofs.Common.{ap, arith, refl, sym, subst, ◌∙◌, ◌≡◌, ◌≤◌, ◌<◌, ◌⊎◌, ◌+◌, inl, inr, ℕ, List, ◌++◌, length, Option, Some, None, Result, Ok, Err}
use Rattle.std.proofs.lemmas.List.{length-append}
use Rattle.spec_history.specs.declared.scripts.Event.{Event}
use Rattle.spec_history.specs.declared.scripts.Event.TheVariants as events
use Rattle.spec_history.specs.declared.scripts.Script.{Script}
use Rattle.afs_grammar.specs.CellScripts.{counts_of, FitsEvent}
use Rattle.afs_grammar.specs.Lines.{ticks_of}
use Rattle.spec_runs.specs.NodeRuns.{CellInput}
use Rattle.afs_schedule.specs.Schedules.{IsInput, ScheduleState}
use Rattle.afs_schedule.specs.Settled.{places_settled, DeliversBehind, IsBehind, IsBehindEach}
use Rattle.afs_schedule.specs.Taking.{IsLeft, Takes}
use Rattle.afs_schedule.specs.declared.schedule.Schedule.{Schedule}
use Rattle.afs_words.specs.declared.nodes.Counts as words
use Rattle.afs_cell.specs.Since.{whole, DeliversKept, GoesOnSince, IsBefore, IsSafeSince, IsWorldSince, StepsSince}
use Rattle.afs_cell.specs.Steps.{Stays}
use Rattle.afs_cell.specs.UnderWay.{GoesSo, IsUnderWay}
use Rattle.afs_cell.specs.UnderWaySince.{GoesSoSince, IsUnderWaySince}
use Rattle.afs_cell.specs.Worlds.{most_history_entries, most_ticks, AllTell, Counts, HistoryTold, IsSafe, IsWorld, WorldState}
use Rattle.afs_cell.specs.declared.faults.WorldFault.{WorldFault}
use Rattle.afs_cell.specs.declared.faults.WorldFault.TheVariants as faulty
use Rattle.afs_cell.specs.declared.playing.Played.TheVariants as played
use Rattle.afs_cell.proofs.UnderWay.{ends_all, ends_full, ends_some, fits_event, fits_within, goes_on, is_no_drain, stays_full, takes_none, takes_some}

-- so many messages were sent in the whole world
pub count_whole : {D : Type 0} (b : HistoryTold) (w : WorldState D) (n : ℕ) → IsBefore b w → n ≡ w.gone.messages + length w.wire → n ≡ length (b.wire ++ w.wire)
count_whole {D} b w n before is = omega (arith, is, before.messages, length-append b.wire w.wire)

-- its history isn't too long
pub within_whole : {D : Type 0} (limit : D → ℕ) (b : HistoryTold) (w : WorldState D) → IsBefore b w → IsSafe limit w.script (whole b w) → w.gone.entries + length w.history ≤ most_history_entries
within_whole {D} limit b w before safe = omega (arith, safe.entries, before.entries, length-append b.history w.history)

pub full_whole : {D : Type 0} (b : HistoryTold) (w : WorldState D) → IsBefore b w → w.gone.entries + length w.history ≡ most_history_entries → length (b.history ++ w.history) ≡ most_history_entries
full_whole {D} b w before full = omega (arith, full, before.entries, length-append b.history w.history)

-- a deliver of the schedule gives a message that wasn't let go
pub kept_by : {D : Type 0} (w : WorldState D) (c : words.Counts) (places : ℕ) (event : Event) → w.gone.messages ≤ places → DeliversBehind places event → FitsEvent c event → DeliversKept w event
kept_by {D} w c places (events.Deliver place) few (inl none) fits = omega (arith, few, none, fits)
kept_by {D} w c places (events.Deliver place) few (inr behind) fits = omega (arith, few, behind)
kept_by {D} w c places (events.Act node) few behind fits = tt
kept_by {D} w c places events.Drain few behind fits = tt
kept_by {D} w c places (events.Timeout node callee) few behind fits = tt
kept_by {D} w c places (events.Wake server) few behind fits = tt
kept_by {D} w c places (events.Tick ticks) few behind fits = tt
kept_by {D} w c places (events.Crash node) few behind fits = tt
kept_by {D} w c places (events.CrashDisk node pick) few behind fits = tt
kept_by {D} w c places (events.Restart node) few behind fits = tt
kept_by {D} w c places (events.Stop node calls pick) few behind fits = tt
kept_by {D} w c places (events.Fail node call) few behind fits = tt

behind_some : (old new : Schedule) (o : Option Event) (event : Event) → o ≡ Some event → IsBehind old new o → IsBehind old new (Some event)
behind_some old new o event is behind = subst (λ (q : Option Event). IsBehind old new q) is behind

stays_wanting : {D : Type 0} (seen : D → Option (List ℕ)) (may_leave : D → List ℕ → Type 0) (limit : D → ℕ) (old new : WorldState D) (fault : WorldFault) → fault ≡ faulty.OutOfMemory → Stays seen may_leave limit old new fault → Stays seen may_leave limit old new faulty.OutOfMemory
stays_wanting {D} seen may_leave limit old new fault is stays = subst (λ (f : WorldFault). Stays seen may_leave limit old new f) is stays

stays_so : {D : Type 0} (seen : D → Option (List ℕ)) (may_leave : D → List ℕ → Type 0) (limit : D → ℕ) (w : WorldState D) → Stays seen may_leave limit w w faulty.OutOfMemory
stays_so {D} seen may_leave limit w = (record { script = refl; history = refl; wire = refl; clock = refl }, inr (record { lost_as = refl; clients = refl; admins = refl; at = λ c left at. at }))

module _ {D : Type 0} (seen : D → Option (List ℕ)) (may_leave : D → List ℕ → Type 0) (faults limit : D → ℕ) (w : WorldState D) (old left : Schedule) (sent : ℕ) (counted : sent ≡ w.gone.messages + length w.wire) where
  taken_none : (b : HistoryTold) → IsBefore b w → (o : Option Event) → o ≡ None → Takes sent old left o → Takes (length (b.wire ++ w.wire)) old left None
  taken_none b before o is takes = takes_none sent (length (b.wire ++ w.wire)) old left o (count_whole b w sent before counted) is takes

  taken_some : (b : HistoryTold) → IsBefore b w → (o : Option Event) (event : Event) → o ≡ Some event → Takes sent old left o → Takes (length (b.wire ++ w.wire)) old left (Some event)
  taken_some b before o event is takes = takes_some sent (length (b.wire ++ w.wire)) old left o event (count_whole b w sent before counted) is takes

  -- all was played
  pub all_since : (o : Option Event) → o ≡ None → Takes sent old left o → GoesSoSince seen may_leave faults limit w w old left played.All
  all_since o is takes b before way = ends_all seen may_leave faults limit w.script (whole b w) old left way (taken_none b before o is takes)

  -- the event that comes next fits the script, and can be played
  pub fits_since : (since : IsUnderWaySince seen may_leave faults limit w old) (o : Option Event) (event : Event) → o ≡ Some event → Takes sent old left o → FitsEvent (counts_of w.script) event
  fits_since since o event is takes = fits_event seen may_leave faults limit w.script (whole since.before w) old left event since.way (taken_some since.before since.is o event is takes)

  pub one_since : (since : IsUnderWaySince seen may_leave faults limit w old) (o : Option Event) (event : Event) → o ≡ Some event → Takes sent old left o → event ≡ events.Drain → ⊥
  one_since since o event is takes = is_no_drain seen may_leave faults limit w.script (whole since.before w) old left event since.way (taken_some since.before since.is o event is takes)

  pub ticks_since : (since : IsUnderWaySince seen may_leave faults limit w old) (o : Option Event) (event : Event) → o ≡ Some event → Takes sent old left o → w.clock + ticks_of event ≤ most_ticks
  ticks_since since o event is takes = fits_within seen may_leave faults limit w.script (whole since.before w) old left event since.way (taken_some since.before since.is o event is takes)

  pub kept_since : (since : IsUnderWaySince seen may_leave faults limit w old) (o : Option Event) (event : Event) → o ≡ Some event → Takes sent old left o → IsBehind old left o → w.gone.messages ≤ places_settled old → DeliversKept w event
  kept_since since o event is takes behind few =
      kept_by w (counts_of w.script) (places_settled old) event few (behind_some old left o event is behind since.way.events since.way.named since.way.is_left).1 (fits_since since o event is takes)

  pub settled_since : (since : IsUnderWaySince seen may_leave faults limit w old) (o : Option Event) → IsBehind old left o → places_settled old ≤ places_settled left
  settled_since since o behind = (behind since.way.events since.way.named since.way.is_left).0

  -- it was played
  pub goes_since : (new : WorldState D) (o : Option Event) (event : Event) → o ≡ Some event → Takes sent old left o → GoesOnSince seen may_leave faults limit w new → StepsSince seen may_leave faults limit (λ (t : ScheduleState). IsInput t event) w new (Ok tt)
      → (AllTell seen new → AllTell seen w) → new.clock ≤ w.clock + ticks_of event → GoesSoSince seen may_leave faults limit w new old left played.Event
  goes_since new o event is takes world steps tells clock b before way =
      let one = steps b before way.world in (
        goes_on seen may_leave faults limit w.script (whole b w) (whole b new) old left event way (taken_some b before o event is takes) (world b before way.world) one tells clock,
        one.count,
      )

  -- its history was full
  pub full_since : (new : WorldState D) (o : Option Event) (event : Event) (fault : WorldFault) → o ≡ Some event → Takes sent old left o → fault ≡ faulty.Limit → StepsSince seen may_leave faults limit (λ (t : ScheduleState). IsInput t event) w new (Err fault)
      → GoesSoSince seen may_leave faults limit w new old left played.Limit
  full_since new o event fault is takes limited steps b before way =
      ends_full seen may_leave faults limit w.script (whole b w) (whole b new) old left event way (taken_some b before o event is takes)
      (stays_full seen may_leave limit (whole b w) (whole b new) fault limited (steps b before way.world))

  -- memory was wanting
  pub wants_since : (new : WorldState D) (is : ScheduleState → CellInput → Type 0) (fault : WorldFault) → fault ≡ faulty.OutOfMemory → GoesOnSince seen may_leave faults limit w new → StepsSince seen may_leave faults limit is w new (Err fault) → (AllTell seen new → AllTell seen w)
      → ((own : ℕ → ℕ) → Counts faults own w → Counts faults own new) → GoesSoSince seen may_leave faults limit w new old left played.OutOfMemory
  wants_since new is fault wanting world steps tells counts b before way =
      ends_some seen may_leave faults limit w.script (whole b w) (whole b new) old left way (world b before way.world) (stays_wanting seen may_leave limit (whole b w) (whole b new) fault wanting (steps b before way.world)) tells counts

  pub unplayed_since : GoesSoSince seen may_leave faults limit w w old left played.OutOfMemory
  unplayed_since b before way = ends_some seen may_leave faults limit w.script (whole b w) (whole b w) old left way way.world (stays_so seen may_leave limit (whole b w)) (λ tell. tell) (λ n h. h)
