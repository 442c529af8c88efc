-- A schedule is played, one event after the other.
use Rattle.std.proofs.Common.{refl, arith, ap, ap₂, sym, subst, ◌∙◌, ◌≡◌, ◌≤◌, ◌+◌, ◌⊎◌, inl, inr, ℕ, List, [], ◌∷◌, ◌++◌, length, Option, Some, None}
use Rattle.std.specs.List.{All}
use Rattle.afs_num.specs.declared.types.Parcel.{Parcel}
use Rattle.spec_history.specs.declared.lines.Entry as kept
use Rattle.spec_history.specs.declared.scripts.Event.{Event}
use Rattle.spec_history.specs.declared.scripts.Script.{Script}
use Rattle.spec_history.specs.declared.scripts.Event.TheVariants as events
use Rattle.afs_grammar.specs.CellScripts.{counts_of, FitsEvent}
use Rattle.afs_grammar.specs.Lines.{schedule_so_far, ticks_in, ticks_of}
use Rattle.spec_runs.specs.NodeRuns.{node_start, CellInput}
use Rattle.afs_schedule.specs.Schedules.{events_in, events_of, first_turn, lowest, named_by, next_event, schedule_behind, waiting, AreFirst, AreInputs, IsInput, ScheduleState}
use Rattle.afs_schedule.specs.Taking.{IsLeft, Takes}
use Rattle.afs_schedule.specs.declared.schedule.Schedule.{Schedule}
use Rattle.afs_text.specs.Telling.{entries_as_told, AreRead}
use Rattle.afs_cell.specs.Steps.{IsFirst, PlaysOne, Stays, TellsNothing}
use Rattle.afs_cell.specs.UnderWay.{GoesSo, HasCome, IsUnderWay, SoFar}
use Rattle.afs_cell.specs.Worlds.{most_history_entries, most_ticks, AllTell, Counts, IsWorld, Runs, WorldState}
use Rattle.afs_cell.specs.declared.faults.WorldFault.{WorldFault}
use Rattle.afs_cell.specs.declared.faults.WorldFault.TheVariants as faulty
use Rattle.afs_cell.specs.declared.playing.Played.TheVariants as played
use Rattle.afs_cell.proofs.Going.{runs_on, runs_still}
use Rattle.afs_cell.proofs.NextEvents.{is_next, low_from, taken_none, taken_some, HasTaken, IsNextOf}
use Rattle.afs_cell.proofs.Scheduled.{all_played, as_many, first_played, none_yet, one_more}

-- the same words of two crates
same_events : (o : Option (List Event)) → schedule_so_far o ≡ events_in o
same_events None = refl
same_events (Some es) = refl

none_or : {A : Type 0} (o : Option A) (x : A) → o ≡ Some x → o ≡ None → ⊥
none_or {A} o x some none = absurd cc

pub takes_some : (n m : ℕ) (old new : Schedule) (o : Option Event) (event : Event) → n ≡ m → o ≡ Some event → Takes n old new o → Takes m old new (Some event)
takes_some n m old new o event same is takes = subst (λ (q : Option Event). Takes m old new q) is (subst (λ (k : ℕ). Takes k old new o) same takes)

pub takes_none : (n m : ℕ) (old new : Schedule) (o : Option Event) → n ≡ m → o ≡ None → Takes n old new o → Takes m old new None
takes_none n m old new o same is takes = subst (λ (q : Option Event). Takes m old new q) is (subst (λ (k : ℕ). Takes k old new o) same takes)

pub stays_full : {D : Type 0} (seen : D → Option (List ℕ)) (may_leave : D → List ℕ → Type 0) (limit : D → ℕ) (old new : WorldState D) (fault : WorldFault) → fault ≡ faulty.Limit → Stays seen may_leave limit old new fault → (length old.history ≡ most_history_entries) × (new ≡ old)
stays_full {D} seen may_leave limit old new fault is stays = subst (λ (f : WorldFault). Stays seen may_leave limit old new f) is stays

module _ {D : Type 0} (seen : D → Option (List ℕ)) (may_leave : D → List ℕ → Type 0) (faults limit : D → ℕ) (s : Script) where
  -- ---- the beginning

  pub runs_none : (w : WorldState D) → IsFirst seen may_leave limit s w → AllTell seen w → Runs seen may_leave faults limit s w [] (node_start s)
  runs_none w first tell = record {
    history = [];
    leads = refl;
    tells = sym (ap₂ (λ (ps : List Parcel) (es : List kept.Entry). entries_as_told ps es) first.wire first.history);
    read = subst (λ (ps : List Parcel). AreRead ps) (sym first.wire) refl;
    cell_is = λ going. first.cell tell;
    counts = (inl (omega arith), λ n seat found. inl (omega arith));
  }

  pub begins : (w : WorldState D) (schedule : Schedule) → IsWorld seen may_leave faults limit s w → IsFirst seen may_leave limit s w → IsLeft schedule (events_of s) [] → IsUnderWay seen may_leave faults limit s w schedule
  begins w schedule world first left = record {
    world = world;
    going = first.going;
    events = events_of s;
    named = [];
    is_left = left;
    fit = subst (λ (es : List Event). All (FitsEvent (counts_of s)) es) (same_events s.schedule) world.safe.cell_script.events;
    ticks =
        let few : ticks_in (events_of s) ≤ most_ticks = subst (λ (es : List Event). ticks_in es ≤ most_ticks) (same_events s.schedule) world.safe.cell_script.ticks in
        let none = first.clock in
        omega (arith, few, none);
    come = λ tell. record {
      inputs = [];
      turn = first_turn s;
      runs = runs_none w first tell;
      at = record { cell = first.cell tell; acts = first.acts; orders = first.orders };
      named_so = refl;
      far = none_yet s;
    };
  }

  -- ---- one event

  -- the lowest place that waits is the one that the program finds
  same_waiting : (w : WorldState D) (es : List Event) (named : List ℕ) (come : HasCome seen may_leave faults limit s w es named) → waiting come.turn ≡ lowest (length w.wire) 1 named
  same_waiting w es named come = ap₂ (λ (n : ℕ) (ns : List ℕ). lowest n 1 ns) (sym (as_many w.wire come.turn.cell.sent come.at.cell.sent)) come.named_so

  next_at : (w : WorldState D) (es : List Event) (named : List ℕ) (o : Option (Event × List Event)) (come : HasCome seen may_leave faults limit s w es named) → next_event (lowest (length w.wire) 1 named) es ≡ o → next_event (waiting come.turn) es ≡ o
  next_at w es named o come e = ap (λ (low : Option ℕ). next_event low es) (same_waiting w es named come) ∙ e

  -- what is taken of a schedule that is under way
  pub takes_one : (w : WorldState D) (old new : Schedule) (event : Event) (way : IsUnderWay seen may_leave faults limit s w old) → Takes (length w.wire) old new (Some event) → HasTaken new way.named event (next_event (lowest (length w.wire) 1 way.named) way.events)
  takes_one w old new event way takes = taken_some new way.named event (next_event (lowest (length w.wire) 1 way.named) way.events) (takes way.events way.named way.is_left)

  pub next_of : (w : WorldState D) (old new : Schedule) (event : Event) (way : IsUnderWay seen may_leave faults limit s w old) (taken : HasTaken new way.named event (next_event (lowest (length w.wire) 1 way.named) way.events)) → IsNextOf (counts_of s) way.events (event, taken.behind)
  next_of w old new event way taken =
      is_next (counts_of s) (lowest (length w.wire) 1 way.named) way.events (event, taken.behind) (low_from (length w.wire) 1 way.named (omega arith)) way.fit taken.next

  pub fits_within : (w : WorldState D) (old new : Schedule) (event : Event) → IsUnderWay seen may_leave faults limit s w old → Takes (length w.wire) old new (Some event) → w.clock + ticks_of event ≤ most_ticks
  fits_within w old new event way takes =
      let next = next_of w old new event way (takes_one w old new event way takes) in
      let few = next.ticks in
      let ticks = way.ticks in
      omega (arith, few, ticks)

  pub fits_event : (w : WorldState D) (old new : Schedule) (event : Event) → IsUnderWay seen may_leave faults limit s w old → Takes (length w.wire) old new (Some event) → FitsEvent (counts_of s) event
  fits_event w old new event way takes = (next_of w old new event way (takes_one w old new event way takes)).fits

  pub is_no_drain : (w : WorldState D) (old new : Schedule) (event : Event) → IsUnderWay seen may_leave faults limit s w old → Takes (length w.wire) old new (Some event) → event ≡ events.Drain → ⊥
  is_no_drain w old new event way takes = (next_of w old new event way (takes_one w old new event way takes)).one

  -- one more was played
  comes : (w new : WorldState D) (event : Event) (es behind : List Event) (named : List ℕ) → next_event (lowest (length w.wire) 1 named) es ≡ Some (event, behind) → AllTell seen w
      → PlaysOne seen may_leave faults limit (λ (t : ScheduleState). IsInput t event) w new → HasCome seen may_leave faults limit s w es named → HasCome seen may_leave faults limit s new behind (named_by event named)
  comes w new event es behind named next tell one come =
      let p = one.plays tell come.turn come.at in
      record {
        inputs = come.inputs ++ p.input ∷ [];
        turn = schedule_behind come.turn event p.input;
        runs = runs_on seen may_leave faults limit s (IsInput come.turn event) come.turn w new come.inputs come.runs p;
        at = p.at;
        named_so = ap (named_by event) come.named_so;
        far = one_more s come.inputs come.turn es behind event p.input come.far (next_at w es named (Some (event, behind)) come next) p.is_one;
      }

  pub goes_on : (w new : WorldState D) (old left : Schedule) (event : Event) → IsUnderWay seen may_leave faults limit s w old → Takes (length w.wire) old left (Some event) → IsWorld seen may_leave faults limit s new
      → PlaysOne seen may_leave faults limit (λ (t : ScheduleState). IsInput t event) w new → (AllTell seen new → AllTell seen w) → new.clock ≤ w.clock + ticks_of event → IsUnderWay seen may_leave faults limit s new left
  goes_on w new old left event way takes world one tells clock =
      let taken = takes_one w old left event way takes in
      let next = next_of w old left event way taken in
      record {
        world = world;
        going = one.going;
        events = taken.behind;
        named = named_by event way.named;
        is_left = taken.left;
        fit = next.rest;
        ticks =
            let few = next.ticks in
            let ticks = way.ticks in
            omega (arith, few, ticks, clock);
        come = λ tell. comes w new event way.events taken.behind way.named taken.next (tells tell) one (way.come (tells tell));
      }

  -- ---- the end

  told_nothing : (w : WorldState D) → TellsNothing w w
  told_nothing w = record { script = refl; history = refl; wire = refl; clock = refl }

  pub ends_all : (w : WorldState D) (old new : Schedule) → IsUnderWay seen may_leave faults limit s w old → Takes (length w.wire) old new None → GoesSo seen may_leave faults limit s w w new played.All
  ends_all w old new way takes = (
    (way.world, told_nothing w),
    (
      way.going,
      λ tell.
          let come = way.come tell in
          let none = taken_none new way.named (next_event (lowest (length w.wire) 1 way.named) way.events) (takes way.events way.named way.is_left) in
          record { inputs = come.inputs; cell = come.turn.cell; runs = come.runs; played = all_played s come.inputs come.turn way.events come.far (next_at w way.events way.named None come none) },
    ),
  )

  -- an event is left, and the history is as long as one may be
  pub ends_first : (w : WorldState D) (old new : Schedule) (event : Event) → IsUnderWay seen may_leave faults limit s w old → Takes (length w.wire) old new (Some event) → length w.history ≡ most_history_entries → GoesSo seen may_leave faults limit s w w new played.Limit
  ends_first w old new event way takes full = (
    (way.world, told_nothing w),
    (
      way.going,
      (
        full,
        λ tell.
            let come = way.come tell in
            let taken = takes_one w old new event way takes in (
              record {
                inputs = come.inputs;
                cell = come.turn.cell;
                runs = come.runs;
                played = first_played s come.inputs come.turn way.events come.far (none_or (next_event (waiting come.turn) way.events) (event, taken.behind) (next_at w way.events way.named (Some (event, taken.behind)) come taken.next));
              },
              full,
            ),
      ),
    ),
  )

  pub ends_full : (w new : WorldState D) (old left : Schedule) (event : Event) → IsUnderWay seen may_leave faults limit s w old → Takes (length w.wire) old left (Some event) → (length w.history ≡ most_history_entries) × (new ≡ w) → GoesSo seen may_leave faults limit s w new left played.Limit
  ends_full w new old left event way takes full = subst (λ (x : WorldState D). GoesSo seen may_leave faults limit s w x left played.Limit) (sym full.1) (ends_first w old left event way takes full.0)

  -- memory was wanting
  some_played : (xs : List CellInput) (t : ScheduleState) (es : List Event) (o : Option (Event × List Event)) → next_event (waiting t) es ≡ o → SoFar s xs t es → AreInputs (first_turn s) (events_of s) xs ⊎ AreFirst (first_turn s) (events_of s) xs
  some_played xs t es None e far = inl (all_played s xs t es far e)
  some_played xs t es (Some x) e far = inr (first_played s xs t es far (none_or (next_event (waiting t) es) x e))

  pub ends_some : (w new : WorldState D) (old left : Schedule) → IsUnderWay seen may_leave faults limit s w old → IsWorld seen may_leave faults limit s new → Stays seen may_leave limit w new faulty.OutOfMemory
      → (AllTell seen new → AllTell seen w) → ((own : ℕ → ℕ) → Counts faults own w → Counts faults own new) → GoesSo seen may_leave faults limit s w new left played.OutOfMemory
  ends_some w new old left way world stays tells counts = (
    (world, stays.0),
    λ tell.
        let come = way.come (tells tell) in
        record {
          inputs = come.inputs;
          cell = come.turn.cell;
          runs = runs_still seen may_leave faults limit s w new come.inputs come.turn.cell come.runs stays counts;
          played = some_played come.inputs come.turn way.events (next_event (waiting come.turn) way.events) refl come.far;
        },
  )
