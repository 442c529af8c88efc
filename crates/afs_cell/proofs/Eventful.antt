-- An event of the schedule is a step of the world.
use Rattle.std.proofs.Common.{refl, arith, ap, sym, subst, ◌∙◌, ◌≡◌, ◌≤◌, ◌<◌, ◌+◌, ℕ, zero, suc, List, [], ◌∷◌, ◌++◌, length, Bool, false, true, not, cond, ◌||◌, Option, Some, None, Result, Ok, Err}
use Rattle.afs_num.specs.declared.histories.Actor.TheVariants as actors
use Rattle.spec_history.specs.declared.lines.Entry as kept
use Rattle.spec_history.specs.declared.lines.Line.TheVariants as lines
use Rattle.spec_history.specs.declared.scripts.Event.TheVariants as events
use Rattle.spec_history.specs.declared.scripts.Script.{Script}
use Rattle.afs_num.specs.Places.{at_place}
use Rattle.afs_num.specs.declared.messages.Message.{Message}
use Rattle.afs_num.specs.declared.types.Parcel.{Parcel}
use Rattle.spec_rows.specs.Runs.{gives, message_at, nothing, ticks}
use Rattle.spec_runs.specs.NodeRuns.{given_at, node_moved, usual, usually_moved, voided, CellInput, NodeCell}
use Rattle.spec_rows.specs.Hosts.{steady}
use Rattle.afs_schedule.specs.Schedules.{IsInput, ScheduleState}
use Rattle.afs_text.specs.Telling.{sent_by}
use Rattle.afs_cell.specs.Happening.{NothingSettles}
use Rattle.afs_cell.specs.Steps.{IsAt, Plays, Stepped, Steps}
use Rattle.afs_cell.specs.Worlds.{most_history_entries, most_ticks, AllTell, IsSafe, WorldState}
use Rattle.afs_cell.specs.declared.faults.WorldFault.{WorldFault}
use Rattle.afs_cell.specs.declared.faults.WorldFault.TheVariants as faulty
use Rattle.afs_cell.proofs.ClientSteps.{moved_nothing}
use Rattle.afs_cell.proofs.Counts.{counts_still}
use Rattle.afs_cell.proofs.Links.{Voided}
use Rattle.afs_cell.proofs.Parcels.{places_agree, sent_by-push, told-still, AtPlace}
use Rattle.afs_cell.proofs.Settled.{admins_more, clients_more, loc_ready_longer, nothing_changes, nothing_happens, one_longer, servers_more}

-- the entry of a tick
abbrev pub tick_entry : ℕ → kept.Entry
tick_entry n = record { actor = actors.Clock; lines = lines.Tick n ∷ []; sent = 0 }

abbrev pub after_tick : {D : Type 0} → WorldState D → ℕ → WorldState D
after_tick {D} w n = record w { history = w.history ++ tick_entry n ∷ []; clock = w.clock + n }

module _ {D : Type 0} (seen : D → Option (List ℕ)) (may_leave : D → List ℕ → Type 0) (faults limit : D → ℕ) (s : Script) where
  steps_as : (is more : ScheduleState → CellInput → Type 0) (w new : WorldState D) (result : Result (Unit {0}) WorldFault) → ((t : ScheduleState) (x : CellInput) → is t x → more t x) → Steps seen may_leave faults limit is w new result → Steps seen may_leave faults limit more w new result
  steps_as is more w new (Ok done) f h = record {
    count = h.count;
    going = h.going;
    plays = λ tell t at.
        let p = h.plays tell t at in
        record { input = p.input; is_one = f t p.input p.is_one; history = p.history; at = p.at; counts = p.counts };
  }
  steps_as is more w new (Err e) f h = h

  -- what is such an input is another, too
  pub stepped_as : (is more : ScheduleState → CellInput → Type 0) (w new : WorldState D) (result : Result (Unit {0}) WorldFault) → ((t : ScheduleState) (x : CellInput) → is t x → more t x) → Stepped seen may_leave faults limit s is w new result → Stepped seen may_leave faults limit s more w new result
  stepped_as is more w new result f h = record { steps = steps_as is more w new result f h.steps; safe = h.safe; tells = h.tells; counts = h.counts }

  -- nothing happens, and nothing is what comes of the input
  pub skip_as : (is : ScheduleState → CellInput → Type 0) (w new : WorldState D) (result : Result (Unit {0}) WorldFault) → IsSafe limit s w → w.is_lost ≡ false → length w.history < most_history_entries
      → (AllTell seen w → (t : ScheduleState) → IsAt seen may_leave limit w t.cell t.left → Voided (is t) t) → NothingSettles w new result → Stepped seen may_leave faults limit s is w new result
  skip_as is w new (Ok done) safe going few void settles =
      subst (λ (v : WorldState D). Stepped seen may_leave faults limit s is w v (Ok done)) (sym settles) (nothing_happens seen may_leave faults limit s is w safe going few void)
  skip_as is w new (Err e) safe going few void settles =
      subst (λ (f : WorldFault). Stepped seen may_leave faults limit s is w new (Err f)) (sym settles.0)
      (subst (λ (v : WorldState D). Stepped seen may_leave faults limit s is w v (Err faulty.OutOfMemory)) (sym settles.1) (nothing_changes seen may_leave faults limit s is w safe))

  pub skip_steps : (is : ScheduleState → CellInput → Type 0) (w new : WorldState D) (result : Result (Unit {0}) WorldFault) → IsSafe limit s w → w.is_lost ≡ false → length w.history < most_history_entries → ((t : ScheduleState) → is t (usual nothing)) → NothingSettles w new result → Stepped seen may_leave faults limit s is w new result
  skip_steps is w new result safe going few void settles =
      skip_as is w new result safe going few (λ tell t at. record { input = usual nothing; is_one = void t; moves = moved_nothing t.cell; left = refl; harmless = refl }) settles

  -- the clock rises
  tick_plays : (n : ℕ) (t : ScheduleState) (w : WorldState D) → 1 ≤ n → sent_by w.history ≡ length w.wire → IsAt seen may_leave limit w t.cell t.left → Plays seen may_leave faults limit (IsInput t (events.Tick n)) t w (after_tick w n)
  unfolding usually_moved
  tick_plays zero t w some all at = absurd (omega (arith, some))
  tick_plays (suc k) t w some all at = record {
    input = usual (ticks (suc k));
    is_one = refl;
    history = told-still w.wire w.history (tick_entry (suc k)) all refl;
    at = record {
      cell = record { loc = at.cell.loc; host_count = at.cell.host_count; hosts = at.cell.hosts; count = at.cell.count; clients = at.cell.clients; sent = at.cell.sent; handed = at.cell.handed; admin_count = at.cell.admin_count; admins = at.cell.admins; clock = ap (λ (c : ℕ). c + suc k) at.cell.clock };
      acts = at.acts;
      orders = at.orders;
    };
    counts = counts_still faults (usual (ticks (suc k))) (node_moved t.cell (usual (ticks (suc k)))).entry w refl;
  }

  pub tick_steps : (n : ℕ) (w : WorldState D) → 1 ≤ n → IsSafe limit s w → w.is_lost ≡ false → length w.history < most_history_entries → w.clock + n ≤ most_ticks → Stepped seen may_leave faults limit s (λ (t : ScheduleState). IsInput t (events.Tick n)) w (after_tick w n) (Ok tt)
  tick_steps n w some safe going few within = record {
    steps = record {
      count = one_longer w.history (tick_entry n);
      going = going;
      plays = λ tell t at. tick_plays n t w some safe.sent at;
    };
    safe = record {
      script = safe.script;
      cell_script = safe.cell_script;
      admin_count = safe.admin_count;
      server_count = safe.server_count;
      client_count = safe.client_count;
      database = λ still. loc_ready_longer w.history (tick_entry n) w.database (safe.database still);
      servers = λ still. servers_more w.history (tick_entry n) w.servers (safe.servers still);
      clients = λ still. clients_more s w.history (tick_entry n) w.clients (safe.clients still);
      admins = λ still. admins_more s w.history (tick_entry n) w.admins (safe.admins still);
      disks = safe.disks;
      sent =
          let more = sent_by-push w.history (tick_entry n) in
          omega (arith, more, safe.sent);
      entries =
          let more = one_longer w.history (tick_entry n) in
          omega (arith, more, few);
      ticks = within;
    };
    tells = (λ h. h, λ h. h);
    counts = λ m h. h;
  }

-- ---- a message that no node is given

none_at : (sent : List Message) (place : ℕ) (o : Option Message) → at_place sent place ≡ o → AtPlace None o → at_place sent place ≡ None
none_at sent place None e h = e
none_at sent place (Some m) e h = absurd h

void_none : (c : NodeCell) (place : ℕ) → message_at c.sent place ≡ None → node_moved c (usual (gives place steady)) ≡ voided c
unfolding usually_moved
void_none c place e = ap (given_at c place steady) e

abbrev gives_void : (t : ScheduleState) (place : ℕ) → node_moved t.cell (usual (gives place steady)) ≡ voided t.cell → Voided (IsInput t (events.Deliver place)) t
gives_void t place e = record { input = usual (gives place steady); is_one = (steady, (refl, tt)); moves = e; left = refl; harmless = refl }

module _ {D : Type 0} (seen : D → Option (List ℕ)) (may_leave : D → List ℕ → Type 0) (faults limit : D → ℕ) (w : WorldState D) (place : ℕ) where
  -- nothing was sent there
  pub no_message : (t : ScheduleState) → IsAt seen may_leave limit w t.cell t.left → at_place w.wire place ≡ None → Voided (IsInput t (events.Deliver place)) t
  no_message t at e =
      gives_void t place (void_none t.cell place (none_at t.cell.sent place (at_place t.cell.sent place) refl
      (subst (λ (o : Option Parcel). AtPlace o (at_place t.cell.sent place)) e (places_agree w.wire t.cell.sent at.cell.sent place))))
