-- What the world does with what happened at a server.
use Rattle.std.proofs.Common.{refl, ap, sym, subst, ◌∙◌, ◌≡◌, ◌<◌, ◌+◌, ◌⊎◌, inl, inr, ℕ, List, [], ◌∷◌, length, false, Option, Some, None, Result}
use Rattle.afs_num.specs.Places.{at_place}
use Rattle.afs_num.specs.declared.types.Node.TheVariants.{Server}
use Rattle.afs_num.specs.declared.types.Parcel.{Parcel}
use Rattle.spec_history.specs.declared.lines.Line.{Line}
use Rattle.spec_history.specs.declared.lines.Line.TheVariants as lines
use Rattle.spec_history.specs.declared.lines.Outs.{Outs}
use Rattle.spec_history.specs.declared.scripts.Event.TheVariants as events
use Rattle.spec_history.specs.declared.scripts.Script.{Script}
use Rattle.afs_disk.specs.Disk.{Rose}
use Rattle.spec_runs.specs.NodeRuns.{has_host, CellInput}
use Rattle.afs_schedule.specs.Schedules.{IsInput, ScheduleState}
use Rattle.spec_rows.specs.Hosts.{HostStep}
use Rattle.spec_volrows.specs.NodeHosts.{NodeHost}
use Rattle.spec_volrows.specs.VolStates.{NodeState}
use Rattle.afs_clients.specs.Happening.{front_lines, IsGiven}
use Rattle.afs_cell.specs.Happening.{Settles}
use Rattle.afs_cell.specs.SeatSteps.{HasHeard, HasStep, IsFallen, IsSeatStep, IsVoidServer, OneHappened, ServersHappened}
use Rattle.afs_cell.specs.Steps.{IsAt, Stepped}
use Rattle.afs_clients.specs.Places.{put_place}
use Rattle.afs_serverhost.specs.Seated.{seat_disk, IsHost, ServerSeat}
use Rattle.afs_cell.specs.Worlds.{most_history_entries, AllTell, IsSafe, WorldState}
use Rattle.afs_cell.specs.declared.faults.WorldFault.{WorldFault}
use Rattle.afs_clients.specs.declared.happening.Happened.{Happened}
use Rattle.afs_clients.specs.declared.happening.Happened.TheVariants as happened
use Rattle.afs_clients.specs.declared.happening.ServerInput.{ServerInput}
use Rattle.afs_cell.proofs.Links.{link_input, link_message, link_void, link_void_message, message_found, Voided}
use Rattle.afs_clients.proofs.Numbers.{each_put, length_put, no_host, put_same}
use Rattle.afs_cell.proofs.HostSteps.{server_plays, ServerLinked}
use Rattle.afs_cell.proofs.Settled.{loc_ready_more, node_settles, ready_more, server_keeps, servers_ready, Leaves}

-- the world with these servers
abbrev with_servers : {D : Type 0} → WorldState D → List (ServerSeat D) → WorldState D
with_servers {D} w servers = record w { servers = servers }

module _ {D : Type 0} (seen : D → Option (List ℕ)) (may_leave : D → List ℕ → Type 0) (faults limit : D → ℕ) (s : Script) (is : ScheduleState → CellInput → Type 0) (w : WorldState D) (i : ℕ) (front : Option Line)
    (IsVoid : NodeHost → Type 0) (Has : NodeHost → (HostStep NodeState → Type 0) → Type 0 → Type 0) where
  abbrev Voids : Type 0
  Voids = AllTell seen w → (t : ScheduleState) → IsAt seen may_leave limit w t.cell t.left → (has_host t.cell i ≡ false) ⊎ IsVoid (t.cell.hosts i) → Voided (is t) t

  abbrev Links : Type 0
  Links = AllTell seen w → (t : ScheduleState) → IsAt seen may_leave limit w t.cell t.left → (was now : ServerSeat D) (outs : Outs) → at_place w.servers i ≡ Some was
      → Has (t.cell.hosts i) (IsSeatStep seen may_leave limit (Server i) now (front_lines front) outs) (Rose (faults (seat_disk was)) (faults (seat_disk now))) → ServerLinked seen may_leave faults limit (is t) t i was now (front_lines front) outs

  abbrev One : List (ServerSeat D) → Happened → Type 0
  One servers what = OneHappened seen may_leave faults limit i (front_lines front) IsVoid Has w.servers servers what

  abbrev After : ServerSeat D → Happened → Type 0
  After now what = Leaves seen may_leave faults limit s is w w.database (put_place i now w.servers) (Server i) (front_lines front) what

  -- what one server took leaves the world so
  one_leaves : (servers : List (ServerSeat D)) (what : Happened) → IsSafe limit s w → w.is_lost ≡ false → (one : One servers what) → Voids → Links → After one.now what
  one_leaves servers happened.Nothing safe going one voids links = (
    ap (λ (ss : List (ServerSeat D)). record w { servers = ss }) (put_same i one.now one.was w.servers one.found one.takes.happens.0),
    λ tell t at. voids tell t at (inr (one.takes.happens.1 (t.cell.hosts i) (at.cell.hosts i one.was one.found))),
  )
  one_leaves servers (happened.Step outs) safe going one voids links = (
    server_keeps seen may_leave faults limit s w i one.was one.now one.found one.takes.keeps,
    (
      record {
        database = loc_ready_more (length w.history) w.database (safe.database going);
        servers =
            servers_ready seen may_leave faults limit (length w.history) (length w.history + 1) w i one.was one.now one.found (λ j z. ready_more j (length w.history) z) (safe.servers going)
            (one.takes.goes (length w.history) (safe.servers going i one.was one.found));
      },
      λ tell t at.
          server_plays seen may_leave faults limit (is t) t w i one.was one.now (front_lines front) outs safe.sent one.found one.takes.keeps.no_fewer at
          (links tell t at one.was one.now outs one.found (one.takes.happens (tell.1 i one.was one.found) (t.cell.hosts i) (at.cell.hosts i one.was one.found))),
    ),
  )
  one_leaves servers happened.Unchanged safe going one voids links = (
    server_keeps seen may_leave faults limit s w i one.was one.now one.found one.takes.keeps,
    (
      record {
        database = safe.database going;
        servers =
            servers_ready seen may_leave faults limit (length w.history) (length w.history) w i one.was one.now one.found (λ j z h. h) (safe.servers going)
            (one.takes.goes (length w.history) (safe.servers going i one.was one.found));
      },
      λ c cell. record {
        loc = cell.loc;
        host_count = cell.host_count ∙ sym (length_put i one.now w.servers);
        hosts =
            each_put (λ (j : ℕ) (z : ServerSeat D). IsHost seen may_leave limit (Server j) z (c.hosts j)) (λ (j : ℕ) (z : ServerSeat D). IsHost seen may_leave limit (Server j) z (c.hosts j)) i one.now one.was w.servers one.found cell.hosts (λ j z apart h. h)
            (one.takes.happens (c.hosts i) (cell.hosts i one.was one.found));
        count = cell.count;
        clients = cell.clients;
        sent = cell.sent;
        clock = cell.clock;
        handed = cell.handed;
        admin_count = cell.admin_count;
        admins = cell.admins;
      },
    ),
  )
  one_leaves servers happened.Lost safe going one voids links = server_keeps seen may_leave faults limit s w i one.was one.now one.found one.takes.keeps

  -- there is none of this number
  none_leaves : Voids → (at_place w.servers i ≡ None) → Leaves seen may_leave faults limit s is w w.database w.servers (Server i) (front_lines front) happened.Nothing
  none_leaves voids none = (refl, λ tell t at. voids tell t at (inl (no_host w.servers i t.cell none at.cell.host_count)))

  server_settles : (servers : List (ServerSeat D)) (what : Happened) (new : WorldState D) (result : Result (Unit {0}) WorldFault) → IsSafe limit s w → w.is_lost ≡ false → length w.history < most_history_entries
      → ServersHappened seen may_leave faults limit i (front_lines front) IsVoid Has w.servers servers what → Voids → Links → Settles (Server i) front what (with_servers w servers) new result → Stepped seen may_leave faults limit s is w new result
  server_settles servers what new result safe going place (inl none) voids links settles =
      node_settles seen may_leave faults limit s is w safe going place new w.database w.servers (Server i) front happened.Nothing result (none_leaves voids none.none)
      (subst (λ (ss : List (ServerSeat D)). Settles (Server i) front happened.Nothing (with_servers w ss) new result) none.same
      (subst (λ (h : Happened). Settles (Server i) front h (with_servers w servers) new result) none.nothing settles))
  server_settles servers what new result safe going place (inr one) voids links settles =
      node_settles seen may_leave faults limit s is w safe going place new w.database (put_place i one.now w.servers) (Server i) front what result (one_leaves servers what safe going one voids links)
      (subst (λ (ss : List (ServerSeat D)). Settles (Server i) front what (with_servers w ss) new result) one.put settles)

module _ {D : Type 0} (seen : D → Option (List ℕ)) (may_leave : D → List ℕ → Type 0) (faults limit : D → ℕ) (s : Script) (w : WorldState D) (i : ℕ) where
  -- a server was given something
  pub input_settles : (input : ServerInput) (servers : List (ServerSeat D)) (what : Happened) (new : WorldState D) (result : Result (Unit {0}) WorldFault) → IsSafe limit s w → w.is_lost ≡ false → length w.history < most_history_entries
      → ServersHappened seen may_leave faults limit i [] (IsVoidServer input) (HasStep (Server i) w.clock s.clients input) w.servers servers what → Settles (Server i) None what (with_servers w servers) new result
      → Stepped seen may_leave faults limit s (λ (t : ScheduleState). IsGiven i input t) w new result
  input_settles input servers what new result safe going place happens settles =
      server_settles seen may_leave faults limit s (λ (t : ScheduleState). IsGiven i input t) w i None (IsVoidServer input) (HasStep (Server i) w.clock s.clients input) servers what new result safe going place happens
      (λ tell t at none. link_void t i input none)
      (λ tell t at was now outs found has. link_input seen may_leave faults limit t w i input was now outs at.cell found
      (subst (λ (k : ℕ). HasStep (Server i) t.cell.clock k input (t.cell.hosts i) (IsSeatStep seen may_leave limit (Server i) now [] outs) (Rose (faults (seat_disk was)) (faults (seat_disk now)))) (sym (at.cell.count ∙ safe.client_count))
      (subst (λ (k : ℕ). HasStep (Server i) k s.clients input (t.cell.hosts i) (IsSeatStep seen may_leave limit (Server i) now [] outs) (Rose (faults (seat_disk was)) (faults (seat_disk now)))) (sym at.cell.clock) has)))
      settles

  -- a server was given the message of a place
  pub message_settles : (place : ℕ) (p : Parcel) (servers : List (ServerSeat D)) (what : Happened) (new : WorldState D) (result : Result (Unit {0}) WorldFault) → IsSafe limit s w → w.is_lost ≡ false → length w.history < most_history_entries
      → at_place w.wire place ≡ Some p → p.head.to ≡ Server i
      → ServersHappened seen may_leave faults limit i (lines.Given place ∷ []) IsFallen (HasHeard (Server i) w.clock place p.bytes) w.servers servers what → Settles (Server i) (Some (lines.Given place)) what (with_servers w servers) new result
      → Stepped seen may_leave faults limit s (λ (t : ScheduleState). IsInput t (events.Deliver place)) w new result
  message_settles place p servers what new result safe going few found to happens settles =
      server_settles seen may_leave faults limit s (λ (t : ScheduleState). IsInput t (events.Deliver place)) w i (Some (lines.Given place)) IsFallen (HasHeard (Server i) w.clock place p.bytes) servers what new result safe going few happens
      (λ tell t at none.
      let f = message_found seen may_leave faults limit w t.cell place p at.cell found in
      link_void_message t i place f.message f.at (sym (ap (λ h. h.to) f.carries.head) ∙ to) none)
      (λ tell t at was now outs here heard. link_message seen may_leave faults limit t w i place p was now outs at.cell here found to
      (subst (λ (k : ℕ). HasHeard (Server i) k place p.bytes (t.cell.hosts i) (IsSeatStep seen may_leave limit (Server i) now (lines.Given place ∷ []) outs) (Rose (faults (seat_disk was)) (faults (seat_disk now)))) (sym at.cell.clock) heard))
      settles
