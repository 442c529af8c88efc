-- What the world does with what happened at an administrator.
use Rattle.std.proofs.Common.{refl, arith, ap, sym, subst, ◌∙◌, ◌≡◌, ◌+◌, ◌<◌, inl, inr, ℕ, List, [], ◌∷◌, ◌++◌, length, true, false, Option, Some, None, Result, Ok, Err}
use Rattle.std.proofs.lemmas.List.{length-append}
use Rattle.afs_num.specs.Places.{at_place}
use Rattle.afs_num.specs.declared.types.Node.TheVariants.{Admin}
use Rattle.afs_num.specs.declared.types.Parcel.{Parcel}
use Rattle.spec_history.specs.declared.lines.Line.{Line}
use Rattle.spec_history.specs.declared.lines.Line.TheVariants as lines
use Rattle.spec_history.specs.declared.lines.Outs.{Outs}
use Rattle.spec_history.specs.declared.scripts.Event.TheVariants as events
use Rattle.spec_history.specs.declared.scripts.Script.{Script}
use Rattle.spec_runs.specs.NodeRuns.{CellInput}
use Rattle.afs_schedule.specs.Schedules.{IsInput, ScheduleState}
use Rattle.afs_clients.specs.Happening.{entry_of, front_lines, void_entry, IsAskedOfAdmin}
use Rattle.afs_admins.specs.Happening.{AdminGoes, AdminHappened, AdminHears, AdminsHappened, AdminTakes, IsVoidAdmin}
use Rattle.afs_cell.specs.Happening.{Settles}
use Rattle.afs_clients.specs.Places.{put_place}
use Rattle.afs_cell.specs.Steps.{IsAt, Stepped}
use Rattle.afs_cell.specs.Worlds.{most_history_entries, AllTell, IsReadyAdmin, IsSafe, WorldState}
use Rattle.afs_admins.specs.declared.admins.AdminSeat.{AdminSeat}
use Rattle.afs_cell.specs.declared.faults.WorldFault.{WorldFault}
use Rattle.afs_cell.specs.declared.faults.WorldFault.TheVariants as faulty
use Rattle.afs_clients.specs.declared.happening.AdminInput.{AdminInput}
use Rattle.afs_clients.specs.declared.happening.AdminInput.TheVariants as admin
use Rattle.afs_clients.specs.declared.happening.Happened.{Happened}
use Rattle.afs_clients.specs.declared.happening.Happened.TheVariants as happened
use Rattle.afs_cell.proofs.AdminSteps.{admin_plays, after_admin, link_begun, link_fallen, link_heard, link_risen, link_timed_out, void_ordered, void_heard, AdminLinked}
use Rattle.afs_cell.proofs.Links.{message_found, Voided}
use Rattle.afs_clients.proofs.Numbers.{each_put, length_put, no_client, put_same}
use Rattle.afs_cell.proofs.Parcels.{sent_by-push}
use Rattle.afs_cell.proofs.Settled.{admin_more, clients_more, loc_ready_longer, nothing_changes, nothing_happens, one_longer, servers_more, ReadyAdmins}

-- the world with these administrators
abbrev pub with_admins : {D : Type 0} → WorldState D → List AdminSeat → WorldState D
with_admins {D} w admins = record w { admins = admins }

-- it is down, and nothing more can be told
abbrev lost_with : {D : Type 0} → WorldState D → List AdminSeat → WorldState D
lost_with {D} w admins = record w { admins = admins; is_lost = true }

abbrev told_with : {D : Type 0} → WorldState D → ℕ → Option Line → Outs → List AdminSeat → WorldState D
told_with {D} w n front outs admins = record w { admins = admins; wire = w.wire ++ outs.parcels; history = w.history ++ entry_of (Admin n) (front_lines front ++ outs.lines) (length outs.parcels) ∷ [] }

admin_ready : (s : Script) (n entries : ℕ) (was now : AdminSeat) → AdminGoes s n was now → IsReadyAdmin s n entries was → IsReadyAdmin s n (entries + 1) now
admin_ready s n entries was now goes h = record { seated = goes.seated; epoch = omega (arith, goes.epoch, h.epoch); last = omega (arith, goes.last, h.last) }

true_false : true ≡ false → ⊥
true_false e = absurd cc

module _ {D : Type 0} (seen : D → Option (List ℕ)) (may_leave : D → List ℕ → Type 0) (faults limit : D → ℕ) (s : Script) (w : WorldState D) (n : ℕ) where
  safe_admin : (was now : AdminSeat) (front : List Line) (outs : Outs) → IsSafe limit s w → w.is_lost ≡ false → length w.history < most_history_entries → at_place w.admins n ≡ Some was → AdminGoes s n was now
      → IsSafe limit s (after_admin w n now front outs)
  safe_admin was now front outs safe going place found goes = record {
    script = safe.script;
    cell_script = safe.cell_script;
    admin_count = length_put n now w.admins ∙ safe.admin_count;
    server_count = safe.server_count;
    client_count = safe.client_count;
    database = λ still. loc_ready_longer w.history (entry_of (Admin n) (front ++ outs.lines) (length outs.parcels)) w.database (safe.database going);
    servers = λ still. servers_more w.history (entry_of (Admin n) (front ++ outs.lines) (length outs.parcels)) w.servers (safe.servers going);
    clients = λ still. clients_more s w.history (entry_of (Admin n) (front ++ outs.lines) (length outs.parcels)) w.clients (safe.clients going);
    admins = λ still.
        subst (λ (k : ℕ). ReadyAdmins s k (put_place n now w.admins)) (sym (one_longer w.history (entry_of (Admin n) (front ++ outs.lines) (length outs.parcels))))
        (each_put (λ (j : ℕ) (z : AdminSeat). IsReadyAdmin s j (length w.history) z) (λ (j : ℕ) (z : AdminSeat). IsReadyAdmin s j (length w.history + 1) z) n now was w.admins found (safe.admins going)
        (λ j z apart. admin_more s j (length w.history) z) (admin_ready s n (length w.history) was now goes (safe.admins going n was found)));
    disks = safe.disks;
    sent =
        let more = sent_by-push w.history (entry_of (Admin n) (front ++ outs.lines) (length outs.parcels)) in
        let long = length-append w.wire outs.parcels in
        omega (arith, more, long, safe.sent);
    entries =
        let more = one_longer w.history (entry_of (Admin n) (front ++ outs.lines) (length outs.parcels)) in
        omega (arith, more, place);
    ticks = safe.ticks;
  }

  admin_told : (is : ScheduleState → CellInput → Type 0) (was now : AdminSeat) (front : List Line) (outs : Outs) → IsSafe limit s w → w.is_lost ≡ false → length w.history < most_history_entries → at_place w.admins n ≡ Some was → AdminGoes s n was now
      → (AllTell seen w → (t : ScheduleState) → IsAt seen may_leave limit w t.cell t.left → AdminLinked (is t) t n now front outs) → Stepped seen may_leave faults limit s is w (after_admin w n now front outs) (Ok tt)
  admin_told is was now front outs safe going place found goes link = record {
    steps = record {
      count = one_longer w.history (entry_of (Admin n) (front ++ outs.lines) (length outs.parcels));
      going = going;
      plays = λ tell t at. admin_plays seen may_leave faults limit (is t) t w n was now front outs safe.sent found at (link tell t at);
    };
    safe = safe_admin was now front outs safe going place found goes;
    tells = (λ h. h, λ h. h);
    counts = λ k h. h;
  }

  admin_lost : (is : ScheduleState → CellInput → Type 0) (now : AdminSeat) → IsSafe limit s w → Stepped seen may_leave faults limit s is w (lost_with w (put_place n now w.admins)) (Err faulty.OutOfMemory)
  admin_lost is now safe = record {
    steps = (record { script = refl; history = refl; wire = refl; clock = refl }, inl refl);
    safe = record {
      script = safe.script;
      cell_script = safe.cell_script;
      admin_count = length_put n now w.admins ∙ safe.admin_count;
      server_count = safe.server_count;
      client_count = safe.client_count;
      database = λ going. absurd (true_false going);
      servers = λ going. absurd (true_false going);
      clients = λ going. absurd (true_false going);
      admins = λ going. absurd (true_false going);
      disks = safe.disks;
      sent = safe.sent;
      entries = safe.entries;
      ticks = safe.ticks;
    };
    tells = (λ h. h, λ h. h);
    counts = λ k h. h;
  }

  module _ (is : ScheduleState → CellInput → Type 0) (front : Option Line) (IsVoid : AdminSeat → Type 0) (Takes : AdminSeat → AdminSeat → Outs → Type 0) where
    abbrev Result1 : WorldState D → Result (Unit {0}) WorldFault → Type 0
    Result1 new result = Stepped seen may_leave faults limit s is w new result

    nothing_settles : (admins : List AdminSeat) (new : WorldState D) (result : Result (Unit {0}) WorldFault) → IsSafe limit s w → w.is_lost ≡ false → length w.history < most_history_entries → admins ≡ w.admins
        → (AllTell seen w → (t : ScheduleState) → IsAt seen may_leave limit w t.cell t.left → Voided (is t) t) → Settles (Admin n) front happened.Nothing (with_admins w admins) new result → Result1 new result
    nothing_settles admins new (Ok done) safe going place same void settles =
        subst (λ (v : WorldState D). Stepped seen may_leave faults limit s is w v (Ok done)) (sym (settles ∙ ap (λ (seats : List AdminSeat). record w { admins = seats; history = w.history ++ void_entry ∷ [] }) same))
        (nothing_happens seen may_leave faults limit s is w safe going place void)
    nothing_settles admins new (Err e) safe going place same void settles =
        subst (λ (f : WorldFault). Stepped seen may_leave faults limit s is w new (Err f)) (sym settles.0)
        (subst (λ (v : WorldState D). Stepped seen may_leave faults limit s is w v (Err faulty.OutOfMemory)) (sym (settles.1 ∙ ap (with_admins w) same)) (nothing_changes seen may_leave faults limit s is w safe))

    abbrev Voids : Type 0
    Voids = AllTell seen w → (t : ScheduleState) → IsAt seen may_leave limit w t.cell t.left → (was : AdminSeat) → at_place w.admins n ≡ Some was → IsVoid was → Voided (is t) t

    abbrev Links : Type 0
    Links = AllTell seen w → (t : ScheduleState) → IsAt seen may_leave limit w t.cell t.left → (was now : AdminSeat) (outs : Outs) → at_place w.admins n ≡ Some was → Takes was now outs → AdminLinked (is t) t n now (front_lines front) outs

    abbrev Absents : Type 0
    Absents = AllTell seen w → (t : ScheduleState) → IsAt seen may_leave limit w t.cell t.left → at_place w.admins n ≡ None → Voided (is t) t

    one_settles : (admins : List AdminSeat) (what : Happened) (new : WorldState D) (result : Result (Unit {0}) WorldFault) → IsSafe limit s w → w.is_lost ≡ false → length w.history < most_history_entries
        → AdminHappened s n IsVoid Takes w.admins admins what → Voids → Links → Settles (Admin n) front what (with_admins w admins) new result → Result1 new result
    one_settles admins happened.Nothing new result safe going place one voids links settles =
        nothing_settles admins new result safe going place (one.put ∙ put_same n one.now one.was w.admins one.found one.happens.0) (λ tell t at. voids tell t at one.was one.found one.happens.1) settles
    one_settles admins (happened.Step outs) new (Ok done) safe going place one voids links settles =
        subst (λ (v : WorldState D). Stepped seen may_leave faults limit s is w v (Ok done)) (sym (settles ∙ ap (told_with w n front outs) one.put))
        (admin_told is one.was one.now (front_lines front) outs safe going place one.found one.goes (λ tell t at. links tell t at one.was one.now outs one.found one.happens))
    one_settles admins (happened.Step outs) new (Err e) safe going place one voids links settles =
        subst (λ (f : WorldFault). Stepped seen may_leave faults limit s is w new (Err f)) (sym settles.0)
        (subst (λ (v : WorldState D). Stepped seen may_leave faults limit s is w v (Err faulty.OutOfMemory)) (sym (settles.1 ∙ ap (lost_with w) one.put)) (admin_lost is one.now safe))
    one_settles admins happened.Unchanged new (Ok done) safe going place one voids links settles = absurd settles
    one_settles admins happened.Unchanged new (Err e) safe going place one voids links settles =
        subst (λ (f : WorldFault). Stepped seen may_leave faults limit s is w new (Err f)) (sym settles.0)
        (subst (λ (v : WorldState D). Stepped seen may_leave faults limit s is w v (Err faulty.OutOfMemory))
        (sym (settles.1 ∙ ap (with_admins w) (one.put ∙ put_same n one.now one.was w.admins one.found one.happens))) (nothing_changes seen may_leave faults limit s is w safe))
    one_settles admins happened.Lost new result safe going place one voids links settles = absurd one.happens

    admin_settles : (admins : List AdminSeat) (what : Happened) (new : WorldState D) (result : Result (Unit {0}) WorldFault) → IsSafe limit s w → w.is_lost ≡ false → length w.history < most_history_entries
        → AdminsHappened s n IsVoid Takes w.admins admins what → Absents → Voids → Links → Settles (Admin n) front what (with_admins w admins) new result → Result1 new result
    admin_settles admins what new result safe going place (inl none) absents voids links settles =
        nothing_settles admins new result safe going place none.same (λ tell t at. absents tell t at none.none) (subst (λ (h : Happened). Settles (Admin n) front h (with_admins w admins) new result) none.nothing settles)
    admin_settles admins what new result safe going place (inr one) absents voids links settles = one_settles admins what new result safe going place one voids links settles

  -- the step of an input
  link_taken : (input : AdminInput) (t : ScheduleState) (was now : AdminSeat) (outs : Outs) → IsAt seen may_leave limit w t.cell t.left → at_place w.admins n ≡ Some was → AdminTakes n input was now outs → AdminLinked (IsAskedOfAdmin input n t) t n now [] outs
  link_taken admin.Act t was now outs at found h = link_begun seen may_leave faults limit t w n was now outs at found h
  link_taken (admin.TimeOut callee) t was now outs at found h = link_timed_out seen may_leave faults limit t w n was now outs at found callee h
  link_taken admin.Crash t was now outs at found h = link_fallen seen may_leave faults limit t w n was now outs at found h
  link_taken admin.Restart t was now outs at found h = link_risen seen may_leave faults limit t w n was now outs at found h

  -- an administrator of the cell was given something
  pub ordered_settles : (input : AdminInput) (admins : List AdminSeat) (what : Happened) (new : WorldState D) (result : Result (Unit {0}) WorldFault) → IsSafe limit s w → w.is_lost ≡ false → length w.history < most_history_entries
      → (at_place w.admins n ≡ None → ⊥) → AdminsHappened s n (IsVoidAdmin input) (AdminTakes n input) w.admins admins what → Settles (Admin n) None what (with_admins w admins) new result
      → Stepped seen may_leave faults limit s (IsAskedOfAdmin input n) w new result
  ordered_settles input admins what new result safe going place inside happens settles =
      admin_settles (IsAskedOfAdmin input n) None (IsVoidAdmin input) (AdminTakes n input) admins what new result safe going place happens
      (λ tell t at none. absurd (inside none))
      (λ tell t at was found h. void_ordered t n was (at.cell.admins n was found) (at.orders n was found) input h)
      (λ tell t at was now outs found h. link_taken input t was now outs at found h)
      settles

  -- an administrator was given the message of a place
  pub admin_heard_settles : (place : ℕ) (p : Parcel) (admins : List AdminSeat) (what : Happened) (new : WorldState D) (result : Result (Unit {0}) WorldFault) → IsSafe limit s w → w.is_lost ≡ false → length w.history < most_history_entries
      → at_place w.wire place ≡ Some p → p.head.to ≡ Admin n → AdminsHappened s n (λ (seat : AdminSeat). seat.is_away ≡ true) (AdminHears n place p.bytes) w.admins admins what
      → Settles (Admin n) (Some (lines.Given place)) what (with_admins w admins) new result → Stepped seen may_leave faults limit s (λ (t : ScheduleState). IsInput t (events.Deliver place)) w new result
  admin_heard_settles place p admins what new result safe going few found to happens settles =
      admin_settles (λ (t : ScheduleState). IsInput t (events.Deliver place)) (Some (lines.Given place)) (λ (seat : AdminSeat). seat.is_away ≡ true) (AdminHears n place p.bytes) admins what new result safe going few happens
      (λ tell t at none.
      let f = message_found seen may_leave faults limit w t.cell place p at.cell found in
      void_heard t n place f.message f.at (sym (ap (λ h. h.to) f.carries.head) ∙ to) (inl (no_client w.admins n t.cell.admin_count none at.cell.admin_count)))
      (λ tell t at was here away.
      let f = message_found seen may_leave faults limit w t.cell place p at.cell found in
      void_heard t n place f.message f.at (sym (ap (λ h. h.to) f.carries.head) ∙ to) (inr (sym (at.cell.admins n was here).gone_is ∙ away)))
      (λ tell t at was now outs here h. link_heard seen may_leave faults limit t w n was now outs at here place p found to h)
      settles
