-- What the world does with what happened at a client.
use Rattle.std.proofs.Common.{refl, arith, ap, sym, subst, ◌∙◌, ◌≡◌, ◌+◌, ◌<◌, inl, inr, ℕ, List, [], ◌∷◌, ◌++◌, length, true, false, Option, Some, None, Result, Ok, Err}
use Rattle.std.proofs.lemmas.List.{length-append}
use Rattle.afs_num.specs.Places.{at_place}
use Rattle.afs_num.specs.declared.types.Node.TheVariants.{Client}
use Rattle.afs_num.specs.declared.types.Parcel.{Parcel}
use Rattle.spec_history.specs.declared.lines.Line.{Line}
use Rattle.spec_history.specs.declared.lines.Line.TheVariants as lines
use Rattle.spec_history.specs.declared.lines.Outs.{Outs}
use Rattle.spec_history.specs.declared.scripts.Event.TheVariants as events
use Rattle.spec_history.specs.declared.scripts.Script.{Script}
use Rattle.spec_runs.specs.NodeRuns.{CellInput}
use Rattle.afs_schedule.specs.Schedules.{IsInput, ScheduleState}
use Rattle.afs_clients.specs.Happening.{entry_of, front_lines, void_entry, ClientGoes, ClientHappened, ClientHears, ClientsHappened, ClientTakes, IsBegunOrGiven, IsVoidClient}
use Rattle.afs_cell.specs.Happening.{Settles}
use Rattle.afs_clients.specs.Places.{put_place}
use Rattle.afs_cell.specs.Steps.{IsAt, Stepped}
use Rattle.afs_cell.specs.Worlds.{most_history_entries, AllTell, IsReadyClient, IsSafe, WorldState}
use Rattle.afs_clients.specs.declared.clients.ClientSeat.{ClientSeat}
use Rattle.afs_cell.specs.declared.faults.WorldFault.{WorldFault}
use Rattle.afs_cell.specs.declared.faults.WorldFault.TheVariants as faulty
use Rattle.afs_clients.specs.declared.happening.ClientInput.{ClientInput}
use Rattle.afs_clients.specs.declared.happening.ClientInput.TheVariants as client
use Rattle.afs_clients.specs.declared.happening.Happened.{Happened}
use Rattle.afs_clients.specs.declared.happening.Happened.TheVariants as happened
use Rattle.afs_cell.proofs.ClientSteps.{after_client, client_plays, link_begun, link_fallen, link_heard, link_risen, link_timed_out, void_asked, void_heard, ClientLinked}
use Rattle.afs_cell.proofs.Links.{message_found, Voided}
use Rattle.afs_clients.proofs.Numbers.{each_put, length_put, no_client, put_same}
use Rattle.afs_cell.proofs.Parcels.{sent_by-push}
use Rattle.afs_cell.proofs.Settled.{admins_more, client_more, loc_ready_longer, nothing_changes, nothing_happens, one_longer, servers_more, ReadyClients}

-- the world with these clients
abbrev pub with_clients : {D : Type 0} → WorldState D → List ClientSeat → WorldState D
with_clients {D} w clients = record w { clients = clients }

-- it is down, and nothing more can be told
abbrev lost_with : {D : Type 0} → WorldState D → List ClientSeat → WorldState D
lost_with {D} w clients = record w { clients = clients; is_lost = true }

abbrev told_with : {D : Type 0} → WorldState D → ℕ → Option Line → Outs → List ClientSeat → WorldState D
told_with {D} w n front outs clients = record w { clients = clients; wire = w.wire ++ outs.parcels; history = w.history ++ entry_of (Client n) (front_lines front ++ outs.lines) (length outs.parcels) ∷ [] }

client_ready : (s : Script) (n entries : ℕ) (was now : ClientSeat) (what : Happened) → ClientGoes s n was now what → IsReadyClient s n entries was → IsReadyClient s n (entries + 1) now
client_ready s n entries was now what goes h = record { handed = goes.handed; epoch = omega (arith, goes.epoch, h.epoch); last = omega (arith, goes.last, h.last) }

true_false : true ≡ false → ⊥
true_false e = absurd cc

module _ {D : Type 0} (seen : D → Option (List ℕ)) (may_leave : D → List ℕ → Type 0) (faults limit : D → ℕ) (s : Script) (w : WorldState D) (n : ℕ) where
  safe_client : (was now : ClientSeat) (front : List Line) (outs : Outs) → IsSafe limit s w → w.is_lost ≡ false → length w.history < most_history_entries → at_place w.clients n ≡ Some was → ClientGoes s n was now (happened.Step outs)
      → IsSafe limit s (after_client w n now front outs)
  safe_client was now front outs safe going place found goes = record {
    script = safe.script;
    cell_script = safe.cell_script;
    admin_count = safe.admin_count;
    server_count = safe.server_count;
    client_count = length_put n now w.clients ∙ safe.client_count;
    database = λ still. loc_ready_longer w.history (entry_of (Client n) (front ++ outs.lines) (length outs.parcels)) w.database (safe.database going);
    servers = λ still. servers_more w.history (entry_of (Client n) (front ++ outs.lines) (length outs.parcels)) w.servers (safe.servers going);
    clients = λ still.
        subst (λ (k : ℕ). ReadyClients s k (put_place n now w.clients)) (sym (one_longer w.history (entry_of (Client n) (front ++ outs.lines) (length outs.parcels))))
        (each_put (λ (j : ℕ) (z : ClientSeat). IsReadyClient s j (length w.history) z) (λ (j : ℕ) (z : ClientSeat). IsReadyClient s j (length w.history + 1) z) n now was w.clients found (safe.clients going)
        (λ j z apart. client_more s j (length w.history) z) (client_ready s n (length w.history) was now (happened.Step outs) goes (safe.clients going n was found)));
    admins = λ still. admins_more s w.history (entry_of (Client n) (front ++ outs.lines) (length outs.parcels)) w.admins (safe.admins going);
    disks = safe.disks;
    sent =
        let more = sent_by-push w.history (entry_of (Client n) (front ++ outs.lines) (length outs.parcels)) in
        let long = length-append w.wire outs.parcels in
        omega (arith, more, long, safe.sent);
    entries =
        let more = one_longer w.history (entry_of (Client n) (front ++ outs.lines) (length outs.parcels)) in
        omega (arith, more, place);
    ticks = safe.ticks;
  }

  client_told : (is : ScheduleState → CellInput → Type 0) (was now : ClientSeat) (front : List Line) (outs : Outs) → IsSafe limit s w → w.is_lost ≡ false → length w.history < most_history_entries → at_place w.clients n ≡ Some was → ClientGoes s n was now (happened.Step outs)
      → (AllTell seen w → (t : ScheduleState) → IsAt seen may_leave limit w t.cell t.left → ClientLinked (is t) t n now front outs) → Stepped seen may_leave faults limit s is w (after_client w n now front outs) (Ok tt)
  client_told is was now front outs safe going place found goes link = record {
    steps = record {
      count = one_longer w.history (entry_of (Client n) (front ++ outs.lines) (length outs.parcels));
      going = going;
      plays = λ tell t at. client_plays seen may_leave faults limit (is t) t w n was now front outs safe.sent found at (link tell t at);
    };
    safe = safe_client was now front outs safe going place found goes;
    tells = (λ h. h, λ h. h);
    counts = λ k h. h;
  }

  client_lost : (is : ScheduleState → CellInput → Type 0) (now : ClientSeat) → IsSafe limit s w → Stepped seen may_leave faults limit s is w (lost_with w (put_place n now w.clients)) (Err faulty.OutOfMemory)
  client_lost is now safe = record {
    steps = (record { script = refl; history = refl; wire = refl; clock = refl }, inl refl);
    safe = record {
      script = safe.script;
      cell_script = safe.cell_script;
      admin_count = safe.admin_count;
      server_count = safe.server_count;
      client_count = length_put n now w.clients ∙ safe.client_count;
      database = λ going. absurd (true_false going);
      servers = λ going. absurd (true_false going);
      clients = λ going. absurd (true_false going);
      admins = λ going. absurd (true_false going);
      disks = safe.disks;
      sent = safe.sent;
      entries = safe.entries;
      ticks = safe.ticks;
    };
    tells = (λ h. h, λ h. h);
    counts = λ k h. h;
  }

  module _ (is : ScheduleState → CellInput → Type 0) (front : Option Line) (IsVoid : ClientSeat → Type 0) (Takes : ClientSeat → ClientSeat → Outs → Type 0) where
    abbrev Result1 : WorldState D → Result (Unit {0}) WorldFault → Type 0
    Result1 new result = Stepped seen may_leave faults limit s is w new result

    nothing_settles : (clients : List ClientSeat) (new : WorldState D) (result : Result (Unit {0}) WorldFault) → IsSafe limit s w → w.is_lost ≡ false → length w.history < most_history_entries → clients ≡ w.clients
        → (AllTell seen w → (t : ScheduleState) → IsAt seen may_leave limit w t.cell t.left → Voided (is t) t) → Settles (Client n) front happened.Nothing (with_clients w clients) new result → Result1 new result
    nothing_settles clients new (Ok done) safe going place same void settles =
        subst (λ (v : WorldState D). Stepped seen may_leave faults limit s is w v (Ok done)) (sym (settles ∙ ap (λ (cs : List ClientSeat). record w { clients = cs; history = w.history ++ void_entry ∷ [] }) same))
        (nothing_happens seen may_leave faults limit s is w safe going place void)
    nothing_settles clients new (Err e) safe going place same void settles =
        subst (λ (f : WorldFault). Stepped seen may_leave faults limit s is w new (Err f)) (sym settles.0)
        (subst (λ (v : WorldState D). Stepped seen may_leave faults limit s is w v (Err faulty.OutOfMemory)) (sym (settles.1 ∙ ap (with_clients w) same)) (nothing_changes seen may_leave faults limit s is w safe))

    abbrev Voids : Type 0
    Voids = AllTell seen w → (t : ScheduleState) → IsAt seen may_leave limit w t.cell t.left → (was : ClientSeat) → at_place w.clients n ≡ Some was → IsVoid was → Voided (is t) t

    abbrev Links : Type 0
    Links = AllTell seen w → (t : ScheduleState) → IsAt seen may_leave limit w t.cell t.left → (was now : ClientSeat) (outs : Outs) → at_place w.clients n ≡ Some was → Takes was now outs → ClientLinked (is t) t n now (front_lines front) outs

    abbrev Absents : Type 0
    Absents = AllTell seen w → (t : ScheduleState) → IsAt seen may_leave limit w t.cell t.left → at_place w.clients n ≡ None → Voided (is t) t

    one_settles : (clients : List ClientSeat) (what : Happened) (new : WorldState D) (result : Result (Unit {0}) WorldFault) → IsSafe limit s w → w.is_lost ≡ false → length w.history < most_history_entries
        → ClientHappened s n IsVoid Takes w.clients clients what → Voids → Links → Settles (Client n) front what (with_clients w clients) new result → Result1 new result
    one_settles clients happened.Nothing new result safe going place one voids links settles =
        nothing_settles clients new result safe going place (one.put ∙ put_same n one.now one.was w.clients one.found one.happens.0) (λ tell t at. voids tell t at one.was one.found one.happens.1) settles
    one_settles clients (happened.Step outs) new (Ok done) safe going place one voids links settles =
        subst (λ (v : WorldState D). Stepped seen may_leave faults limit s is w v (Ok done)) (sym (settles ∙ ap (told_with w n front outs) one.put))
        (client_told is one.was one.now (front_lines front) outs safe going place one.found one.goes (λ tell t at. links tell t at one.was one.now outs one.found one.happens))
    one_settles clients (happened.Step outs) new (Err e) safe going place one voids links settles =
        subst (λ (f : WorldFault). Stepped seen may_leave faults limit s is w new (Err f)) (sym settles.0)
        (subst (λ (v : WorldState D). Stepped seen may_leave faults limit s is w v (Err faulty.OutOfMemory)) (sym (settles.1 ∙ ap (lost_with w) one.put)) (client_lost is one.now safe))
    one_settles clients happened.Unchanged new (Ok done) safe going place one voids links settles = absurd settles
    one_settles clients happened.Unchanged new (Err e) safe going place one voids links settles =
        subst (λ (f : WorldFault). Stepped seen may_leave faults limit s is w new (Err f)) (sym settles.0)
        (subst (λ (v : WorldState D). Stepped seen may_leave faults limit s is w v (Err faulty.OutOfMemory))
        (sym (settles.1 ∙ ap (with_clients w) (one.put ∙ put_same n one.now one.was w.clients one.found one.happens))) (nothing_changes seen may_leave faults limit s is w safe))
    one_settles clients happened.Lost new result safe going place one voids links settles = absurd one.happens

    client_settles : (clients : List ClientSeat) (what : Happened) (new : WorldState D) (result : Result (Unit {0}) WorldFault) → IsSafe limit s w → w.is_lost ≡ false → length w.history < most_history_entries
        → ClientsHappened s n IsVoid Takes w.clients clients what → Absents → Voids → Links → Settles (Client n) front what (with_clients w clients) new result → Result1 new result
    client_settles clients what new result safe going place (inl none) absents voids links settles =
        nothing_settles clients new result safe going place none.same (λ tell t at. absents tell t at none.none) (subst (λ (h : Happened). Settles (Client n) front h (with_clients w clients) new result) none.nothing settles)
    client_settles clients what new result safe going place (inr one) absents voids links settles = one_settles clients what new result safe going place one voids links settles

  -- the step of an input
  link_taken : (input : ClientInput) (t : ScheduleState) (was now : ClientSeat) (outs : Outs) → IsAt seen may_leave limit w t.cell t.left → at_place w.clients n ≡ Some was → ClientTakes w.script n t.cell.clock input was now outs → ClientLinked (IsBegunOrGiven input n t) t n now [] outs
  link_taken client.Act t was now outs at found h = link_begun seen may_leave faults limit t w n was now outs at found h
  link_taken (client.TimeOut callee) t was now outs at found h = link_timed_out seen may_leave faults limit t w n was now outs at found callee h
  link_taken client.Crash t was now outs at found h = link_fallen seen may_leave faults limit t w n was now outs at found h
  link_taken client.Restart t was now outs at found h = link_risen seen may_leave faults limit t w n was now outs at found h

  -- a client of the cell was given something
  pub asked_settles : (input : ClientInput) (clients : List ClientSeat) (what : Happened) (new : WorldState D) (result : Result (Unit {0}) WorldFault) → IsSafe limit s w → w.is_lost ≡ false → length w.history < most_history_entries
      → (at_place w.clients n ≡ None → ⊥) → ClientsHappened s n (IsVoidClient input) (ClientTakes w.script n w.clock input) w.clients clients what → Settles (Client n) None what (with_clients w clients) new result
      → Stepped seen may_leave faults limit s (IsBegunOrGiven input n) w new result
  asked_settles input clients what new result safe going place inside happens settles =
      client_settles (IsBegunOrGiven input n) None (IsVoidClient input) (ClientTakes w.script n w.clock input) clients what new result safe going place happens
      (λ tell t at none. absurd (inside none))
      (λ tell t at was found h. void_asked t n was (at.cell.clients n was found) (at.acts n was found) input h)
      (λ tell t at was now outs found h. link_taken input t was now outs at found (subst (λ (k : ℕ). ClientTakes w.script n k input was now outs) (sym at.cell.clock) h))
      settles

  -- a client was given the message of a place
  pub heard_settles : (place : ℕ) (p : Parcel) (clients : List ClientSeat) (what : Happened) (new : WorldState D) (result : Result (Unit {0}) WorldFault) → IsSafe limit s w → w.is_lost ≡ false → length w.history < most_history_entries
      → at_place w.wire place ≡ Some p → p.head.to ≡ Client n → ClientsHappened s n (λ (seat : ClientSeat). seat.is_away ≡ true) (ClientHears n w.clock place p.bytes) w.clients clients what
      → Settles (Client n) (Some (lines.Given place)) what (with_clients w clients) new result → Stepped seen may_leave faults limit s (λ (t : ScheduleState). IsInput t (events.Deliver place)) w new result
  heard_settles place p clients what new result safe going few found to happens settles =
      client_settles (λ (t : ScheduleState). IsInput t (events.Deliver place)) (Some (lines.Given place)) (λ (seat : ClientSeat). seat.is_away ≡ true) (ClientHears n w.clock place p.bytes) clients what new result safe going few happens
      (λ tell t at none.
      let f = message_found seen may_leave faults limit w t.cell place p at.cell found in
      void_heard t n place f.message f.at (sym (ap (λ h. h.to) f.carries.head) ∙ to) (inl (no_client w.clients n t.cell.count none at.cell.count)))
      (λ tell t at was here away.
      let f = message_found seen may_leave faults limit w t.cell place p at.cell found in
      void_heard t n place f.message f.at (sym (ap (λ h. h.to) f.carries.head) ∙ to) (inr (sym (at.cell.clients n was here).away_is ∙ away)))
      (λ tell t at was now outs here h. link_heard seen may_leave faults limit t w n was now outs at here place p found to (subst (λ (k : ℕ). ClientHears n k place p.bytes was now outs) (sym at.cell.clock) h))
      settles
