-- What happened at a node with a disk, told by the world: the step of the whole.
use Rattle.std.proofs.Common.{refl, arith, ap, sym, subst, ◌∙◌, ◌≡◌, ◌<◌, ◌+◌, ◌↔◌, inl, inr, ℕ, List, [], ◌∷◌, ◌++◌, length, true, false, Option, Some, Result, Ok, Err}
use Rattle.std.specs.Prelude.{IsSome}
use Rattle.std.proofs.lemmas.List.{length-append}
use Rattle.afs_num.specs.Places.{at_place}
use Rattle.afs_num.specs.declared.types.Node.TheVariants.{Server}
use Rattle.afs_num.specs.declared.types.Node.{Node}
use Rattle.spec_history.specs.declared.scripts.Task.{Task}
use Rattle.spec_history.specs.declared.lines.Entry as kept
use Rattle.spec_history.specs.declared.lines.Line.{Line}
use Rattle.spec_history.specs.declared.lines.Outs.{Outs}
use Rattle.spec_history.specs.declared.scripts.Script.{Script}
use Rattle.spec_rows.specs.Runs.{Entry}
use Rattle.spec_runs.specs.NodeRuns.{bare_entry, node_moved, voided, CellInput, NodeCell, NodeMoved}
use Rattle.afs_schedule.specs.Schedules.{ScheduleState}
use Rattle.afs_text.specs.Telling.{entries_as_told, sent_by}
use Rattle.afs_host.specs.declared.seats.Seat.TheVariants.{Up, Down}
use Rattle.afs_clients.specs.Happening.{entry_of, front_lines, void_entry}
use Rattle.afs_cell.specs.Happening.{Settles}
use Rattle.afs_cell.specs.SeatSteps.{DiskKeeps}
use Rattle.afs_clients.specs.Places.{put_place, Each}
use Rattle.afs_cell.specs.Steps.{IsAt, Plays, Stepped}
use Rattle.afs_cell.specs.Worlds.{most_history_entries, AllHold, AllTell, Counts, IsCell, IsReadyAdmin, IsReadyClient, IsSafe, WorldState}
use Rattle.afs_host.specs.LocSeated.{loc_seat_disk, DatabaseSeat, IsLocReadySeat}
use Rattle.afs_serverhost.specs.Seated.{seat_disk, IsReadySeat, ServerSeat}
use Rattle.afs_clients.specs.declared.clients.ClientSeat.{ClientSeat}
use Rattle.afs_admins.specs.declared.admins.AdminSeat.{AdminSeat}
use Rattle.afs_cell.specs.declared.faults.WorldFault.{WorldFault}
use Rattle.afs_cell.specs.declared.faults.WorldFault.TheVariants as faulty
use Rattle.afs_clients.specs.declared.happening.Happened.{Happened}
use Rattle.afs_clients.specs.declared.happening.Happened.TheVariants as happened
use Rattle.afs_cell.proofs.Counts.{counts_kept, counts_still, loc_counts_kept}
use Rattle.afs_cell.proofs.Links.{Voided}
use Rattle.afs_cell.proofs.Parcels.{sent_by-push, told-still}
use Rattle.afs_clients.proofs.Numbers.{each_back, each_map, each_put, length_put}
use Rattle.afs_cell.proofs.HostSteps.{after_step, with_hosts}

-- ---- what one entry more leaves

pub ready_more : {D : Type 0} (j n : ℕ) (z : ServerSeat D) → IsReadySeat (Server j) n z → IsReadySeat (Server j) (n + 1) z
ready_more {D} j n (Up r) h = record {
  node = h.node;
  can_run = h.can_run;
  calls_drawn = omega (arith, h.calls_drawn);
  breaks_drawn = omega (arith, h.breaks_drawn);
  device_calls = omega (arith, h.device_calls);
}
ready_more {D} j n (Down s) h = tt

-- and the location database
pub loc_ready_more : {D : Type 0} (n : ℕ) (z : DatabaseSeat D) → IsLocReadySeat n z → IsLocReadySeat (n + 1) z
loc_ready_more {D} n (Up r) h = record { can_run = h.can_run; device_calls = omega (arith, h.device_calls) }
loc_ready_more {D} n (Down s) h = tt

pub client_more : (s : Script) (j n : ℕ) (z : ClientSeat) → IsReadyClient s j n z → IsReadyClient s j (n + 1) z
client_more s j n z h = record { handed = h.handed; epoch = omega (arith, h.epoch); last = omega (arith, h.last) }

pub admin_more : (s : Script) (j n : ℕ) (z : AdminSeat) → IsReadyAdmin s j n z → IsReadyAdmin s j (n + 1) z
admin_more s j n z h = record { seated = h.seated; epoch = omega (arith, h.epoch); last = omega (arith, h.last) }

pub one_longer : (es : List kept.Entry) (e : kept.Entry) → length (es ++ e ∷ []) ≡ length es + 1
one_longer es e = length-append es (e ∷ [])

pub loc_ready_longer : {D : Type 0} (es : List kept.Entry) (e : kept.Entry) (z : DatabaseSeat D) → IsLocReadySeat (length es) z → IsLocReadySeat (length (es ++ e ∷ [])) z
loc_ready_longer {D} es e z h = subst (λ (n : ℕ). IsLocReadySeat n z) (sym (one_longer es e)) (loc_ready_more (length es) z h)

abbrev pub ReadyServers : {D : Type 0} → ℕ → List (ServerSeat D) → Type 0
ReadyServers {D} n ss = Each (λ (j : ℕ) (z : ServerSeat D). IsReadySeat (Server j) n z) ss

abbrev pub ReadyClients : Script → ℕ → List ClientSeat → Type 0
ReadyClients s n cs = Each (λ (j : ℕ) (z : ClientSeat). IsReadyClient s j n z) cs

abbrev pub ReadyAdmins : Script → ℕ → List AdminSeat → Type 0
ReadyAdmins s n seats = Each (λ (j : ℕ) (z : AdminSeat). IsReadyAdmin s j n z) seats

pub servers_more : {D : Type 0} (es : List kept.Entry) (e : kept.Entry) (ss : List (ServerSeat D)) → ReadyServers (length es) ss → ReadyServers (length (es ++ e ∷ [])) ss
servers_more {D} es e ss h =
    subst (λ (n : ℕ). ReadyServers n ss) (sym (one_longer es e))
    (each_map (λ (j : ℕ) (z : ServerSeat D). IsReadySeat (Server j) (length es) z) (λ (j : ℕ) (z : ServerSeat D). IsReadySeat (Server j) (length es + 1) z) ss (λ j z. ready_more j (length es) z) h)

pub clients_more : (s : Script) (es : List kept.Entry) (e : kept.Entry) (cs : List ClientSeat) → ReadyClients s (length es) cs → ReadyClients s (length (es ++ e ∷ [])) cs
clients_more s es e cs h =
    subst (λ (n : ℕ). ReadyClients s n cs) (sym (one_longer es e))
    (each_map (λ (j : ℕ) (z : ClientSeat). IsReadyClient s j (length es) z) (λ (j : ℕ) (z : ClientSeat). IsReadyClient s j (length es + 1) z) cs (λ j z. client_more s j (length es) z) h)

pub admins_more : (s : Script) (es : List kept.Entry) (e : kept.Entry) (seats : List AdminSeat) → ReadyAdmins s (length es) seats → ReadyAdmins s (length (es ++ e ∷ [])) seats
admins_more s es e seats h =
    subst (λ (n : ℕ). ReadyAdmins s n seats) (sym (one_longer es e))
    (each_map (λ (j : ℕ) (z : AdminSeat). IsReadyAdmin s j (length es) z) (λ (j : ℕ) (z : AdminSeat). IsReadyAdmin s j (length es + 1) z) seats (λ j z. admin_more s j (length es) z) h)

module _ {D : Type 0} (seen : D → Option (List ℕ)) (may_leave : D → List ℕ → Type 0) (faults limit : D → ℕ) where
  -- ---- nothing

  abbrev pub after_nothing : WorldState D → WorldState D
  after_nothing w = record w { history = w.history ++ void_entry ∷ [] }

  safe_nothing : (s : Script) (w : WorldState D) → IsSafe limit s w → length w.history < most_history_entries → IsSafe limit s (after_nothing w)
  safe_nothing s w safe place = record {
    script = safe.script;
    cell_script = safe.cell_script;
    admin_count = safe.admin_count;
    server_count = safe.server_count;
    client_count = safe.client_count;
    database = λ going. loc_ready_longer w.history void_entry w.database (safe.database going);
    servers = λ going. servers_more w.history void_entry w.servers (safe.servers going);
    clients = λ going. clients_more s w.history void_entry w.clients (safe.clients going);
    admins = λ going. admins_more s w.history void_entry w.admins (safe.admins going);
    disks = safe.disks;
    sent =
        let more = sent_by-push w.history void_entry in
        omega (arith, more, safe.sent);
    entries =
        let more = one_longer w.history void_entry in
        omega (arith, more, place);
    ticks = safe.ticks;
  }

  abbrev void_step : NodeCell → Entry
  void_step c = (voided c).entry

  void_plays : (is : CellInput → Type 0) (t : ScheduleState) (w : WorldState D) → sent_by w.history ≡ length w.wire → IsAt seen may_leave limit w t.cell t.left → Voided is t → Plays seen may_leave faults limit is t w (after_nothing w)
  void_plays is t w all at v = record {
    input = v.input;
    is_one = v.is_one;
    history =
        told-still w.wire w.history void_entry all refl
        ∙ ap (λ (m : NodeMoved). entries_as_told w.wire w.history ++ bare_entry m.entry ∷ []) (sym v.moves);
    at =
        subst (λ (left : Node → List Task). IsAt seen may_leave limit (after_nothing w) (node_moved t.cell v.input).cell left) (sym v.left)
        (subst (λ (m : NodeMoved). IsAt seen may_leave limit (after_nothing w) m.cell t.left) (sym v.moves)
        (record {
          cell = record { loc = at.cell.loc; host_count = at.cell.host_count; hosts = at.cell.hosts; count = at.cell.count; clients = at.cell.clients; sent = at.cell.sent; clock = at.cell.clock; handed = at.cell.handed; admin_count = at.cell.admin_count; admins = at.cell.admins };
          acts = at.acts;
          orders = at.orders;
        }));
    counts = counts_still faults v.input (node_moved t.cell v.input).entry w v.harmless;
  }

  pub nothing_happens : (s : Script) (is : ScheduleState → CellInput → Type 0) (w : WorldState D) → IsSafe limit s w → w.is_lost ≡ false → length w.history < most_history_entries
      → (AllTell seen w → (t : ScheduleState) → IsAt seen may_leave limit w t.cell t.left → Voided (is t) t) → Stepped seen may_leave faults limit s is w (after_nothing w) (Ok tt)
  nothing_happens s is w safe going place void = record {
    steps = record {
      count = one_longer w.history void_entry;
      going = going;
      plays = λ tell t at. void_plays (is t) t w safe.sent at (void tell t at);
    };
    safe = safe_nothing s w safe place;
    tells = (λ h. h, λ h. h);
    counts = λ n h. h;
  }

  -- memory was wanting, and nothing changed
  pub nothing_changes : (s : Script) (is : ScheduleState → CellInput → Type 0) (w : WorldState D) → IsSafe limit s w → Stepped seen may_leave faults limit s is w w (Err faulty.OutOfMemory)
  nothing_changes s is w safe = record {
    steps = (record { script = refl; history = refl; wire = refl; clock = refl }, inr (record { lost_as = refl; clients = refl; admins = refl; at = λ c left at. at }));
    safe = safe;
    tells = (λ h. h, λ h. h);
    counts = λ n h. h;
  }

  -- ---- other nodes with disks

  -- As many servers; each disk tells as before, has room for as many bytes, and its count of faults doesn't fall.
  pub record HostsKeep (s : Script) (w : WorldState D) (d : DatabaseSeat D) (ss : List (ServerSeat D)) : Type 0 where
    pub count : length ss ≡ length w.servers
    pub tells : AllTell seen w ↔ AllTell seen (with_hosts w d ss)
    pub disks : AllHold limit s.capacity w → AllHold limit s.capacity (with_hosts w d ss)
    pub counts : (own : ℕ → ℕ) → Counts faults own w → Counts faults own (with_hosts w d ss)

  -- each of them can be given what comes next, in a history of so many entries
  pub record HostsReady (entries : ℕ) (d : DatabaseSeat D) (ss : List (ServerSeat D)) : Type 0 where
    pub database : IsLocReadySeat entries d
    pub servers : ReadyServers entries ss

  -- another server
  pub server_keeps : (s : Script) (w : WorldState D) (i : ℕ) (was now : ServerSeat D) → at_place w.servers i ≡ Some was → DiskKeeps seen faults limit (seat_disk was) (seat_disk now) → HostsKeep s w w.database (put_place i now w.servers)
  server_keeps s w i was now found keeps = record {
    count = length_put i now w.servers;
    tells = (
      λ h. (h.0, each_put (λ (j : ℕ) (z : ServerSeat D). IsSome (seen (seat_disk z))) (λ (j : ℕ) (z : ServerSeat D). IsSome (seen (seat_disk z))) i now was w.servers found h.1 (λ j z apart good. good) (keeps.told.1 (h.1 i was found))),
      λ h. (h.0, each_back (λ (j : ℕ) (z : ServerSeat D). IsSome (seen (seat_disk z))) i now was w.servers found h.1 keeps.told.0),
    );
    disks = λ h. (
      h.0,
      each_put (λ (j : ℕ) (z : ServerSeat D). limit (seat_disk z) ≡ s.capacity) (λ (j : ℕ) (z : ServerSeat D). limit (seat_disk z) ≡ s.capacity) i now was w.servers found h.1 (λ j z apart good. good) (keeps.same_limit ∙ h.1 i was found),
    );
    counts = counts_kept faults i was now w found keeps.no_fewer;
  }

  pub servers_ready : (n m : ℕ) (w : WorldState D) (i : ℕ) (was now : ServerSeat D) → at_place w.servers i ≡ Some was → ((j : ℕ) (z : ServerSeat D) → IsReadySeat (Server j) n z → IsReadySeat (Server j) m z) → ReadyServers n w.servers → IsReadySeat (Server i) m now → ReadyServers m (put_place i now w.servers)
  servers_ready n m w i was now found more ready here =
      each_put (λ (j : ℕ) (z : ServerSeat D). IsReadySeat (Server j) n z) (λ (j : ℕ) (z : ServerSeat D). IsReadySeat (Server j) m z) i now was w.servers found ready (λ j z apart. more j z) here

  -- another location database
  pub database_keeps : (s : Script) (w : WorldState D) (now : DatabaseSeat D) → DiskKeeps seen faults limit (loc_seat_disk w.database) (loc_seat_disk now) → HostsKeep s w now w.servers
  database_keeps s w now keeps = record {
    count = refl;
    tells = (λ h. (keeps.told.1 h.0, h.1), λ h. (keeps.told.0 h.0, h.1));
    disks = λ h. (keeps.same_limit ∙ h.0, h.1);
    counts = loc_counts_kept faults now w keeps.no_fewer;
  }

  -- ---- what is told of it

  safe_step : (s : Script) (w : WorldState D) (d : DatabaseSeat D) (ss : List (ServerSeat D)) (node : Node) (front : List Line) (outs : Outs) → IsSafe limit s w → w.is_lost ≡ false → length w.history < most_history_entries → HostsKeep s w d ss → HostsReady (length w.history + 1) d ss
      → IsSafe limit s (after_step w d ss node front outs)
  safe_step s w d ss node front outs safe going place keep ready = record {
    script = safe.script;
    cell_script = safe.cell_script;
    admin_count = safe.admin_count;
    server_count = keep.count ∙ safe.server_count;
    client_count = safe.client_count;
    database = λ still. subst (λ (n : ℕ). IsLocReadySeat n d) (sym (one_longer w.history (entry_of node (front ++ outs.lines) (length outs.parcels)))) ready.database;
    servers = λ still. subst (λ (n : ℕ). ReadyServers n ss) (sym (one_longer w.history (entry_of node (front ++ outs.lines) (length outs.parcels)))) ready.servers;
    clients = λ still. clients_more s w.history (entry_of node (front ++ outs.lines) (length outs.parcels)) w.clients (safe.clients going);
    admins = λ still. admins_more s w.history (entry_of node (front ++ outs.lines) (length outs.parcels)) w.admins (safe.admins going);
    disks = keep.disks safe.disks;
    sent =
        let more = sent_by-push w.history (entry_of node (front ++ outs.lines) (length outs.parcels)) in
        let long = length-append w.wire outs.parcels in
        omega (arith, more, long, safe.sent);
    entries =
        let more = one_longer w.history (entry_of node (front ++ outs.lines) (length outs.parcels)) in
        omega (arith, more, place);
    ticks = safe.ticks;
  }

  step_told : (s : Script) (is : ScheduleState → CellInput → Type 0) (w : WorldState D) (d : DatabaseSeat D) (ss : List (ServerSeat D)) (node : Node) (front : List Line) (outs : Outs) → IsSafe limit s w → w.is_lost ≡ false → length w.history < most_history_entries → HostsKeep s w d ss → HostsReady (length w.history + 1) d ss
      → (AllTell seen w → (t : ScheduleState) → IsAt seen may_leave limit w t.cell t.left → Plays seen may_leave faults limit (is t) t w (after_step w d ss node front outs)) → Stepped seen may_leave faults limit s is w (after_step w d ss node front outs) (Ok tt)
  step_told s is w d ss node front outs safe going place keep ready plays = record {
    steps = record { count = one_longer w.history (entry_of node (front ++ outs.lines) (length outs.parcels)); going = going; plays = plays };
    safe = safe_step s w d ss node front outs safe going place keep ready;
    tells = keep.tells;
    counts = keep.counts;
  }

  -- memory was wanting
  step_wants : (s : Script) (is : ScheduleState → CellInput → Type 0) (w : WorldState D) (d : DatabaseSeat D) (ss : List (ServerSeat D)) → IsSafe limit s w → w.is_lost ≡ false → HostsKeep s w d ss → HostsReady (length w.history) d ss
      → ((c : NodeCell) → IsCell seen may_leave limit w c → IsCell seen may_leave limit (with_hosts w d ss) c) → Stepped seen may_leave faults limit s is w (with_hosts w d ss) (Err faulty.OutOfMemory)
  step_wants s is w d ss safe going keep ready same = record {
    steps = (
      record { script = refl; history = refl; wire = refl; clock = refl },
      inr (record { lost_as = refl; clients = refl; admins = refl; at = λ c left at. record { cell = same c at.cell; acts = at.acts; orders = at.orders } }),
    );
    safe = record {
      script = safe.script;
      cell_script = safe.cell_script;
      admin_count = safe.admin_count;
      server_count = keep.count ∙ safe.server_count;
      client_count = safe.client_count;
      database = λ still. ready.database;
      servers = λ still. ready.servers;
      clients = safe.clients;
      admins = safe.admins;
      disks = keep.disks safe.disks;
      sent = safe.sent;
      entries = safe.entries;
      ticks = safe.ticks;
    };
    tells = keep.tells;
    counts = keep.counts;
  }

  abbrev lost_with : WorldState D → DatabaseSeat D → List (ServerSeat D) → WorldState D
  lost_with w d ss = record w { database = d; servers = ss; is_lost = true }

  true_false : true ≡ false → ⊥
  true_false e = absurd cc

  step_loses : (s : Script) (is : ScheduleState → CellInput → Type 0) (w : WorldState D) (d : DatabaseSeat D) (ss : List (ServerSeat D)) → IsSafe limit s w → HostsKeep s w d ss → Stepped seen may_leave faults limit s is w (lost_with w d ss) (Err faulty.OutOfMemory)
  step_loses s is w d ss safe keep = record {
    steps = (record { script = refl; history = refl; wire = refl; clock = refl }, inl refl);
    safe = record {
      script = safe.script;
      cell_script = safe.cell_script;
      admin_count = safe.admin_count;
      server_count = keep.count ∙ safe.server_count;
      client_count = safe.client_count;
      database = λ going. absurd (true_false going);
      servers = λ going. absurd (true_false going);
      clients = λ going. absurd (true_false going);
      admins = λ going. absurd (true_false going);
      disks = keep.disks safe.disks;
      sent = safe.sent;
      entries = safe.entries;
      ticks = safe.ticks;
    };
    tells = keep.tells;
    counts = keep.counts;
  }

  -- ---- what happened at a node

  -- Nothing came of the input, and the nodes are what they were; or a step was told; or memory was wanting, and they stand for what
  -- they stood for, or the cell is lost.
  abbrev pub Leaves : Script → (ScheduleState → CellInput → Type 0) → WorldState D → DatabaseSeat D → List (ServerSeat D) → Node → List Line → Happened → Type 0
  Leaves s is w d ss node front happened.Nothing = (with_hosts w d ss ≡ w) × (AllTell seen w → (t : ScheduleState) → IsAt seen may_leave limit w t.cell t.left → Voided (is t) t)
  Leaves s is w d ss node front (happened.Step outs) =
      HostsKeep s w d ss × (HostsReady (length w.history + 1) d ss × (AllTell seen w → (t : ScheduleState) → IsAt seen may_leave limit w t.cell t.left → Plays seen may_leave faults limit (is t) t w (after_step w d ss node front outs)))
  Leaves s is w d ss node front happened.Unchanged = HostsKeep s w d ss × (HostsReady (length w.history) d ss × ((c : NodeCell) → IsCell seen may_leave limit w c → IsCell seen may_leave limit (with_hosts w d ss) c))
  Leaves s is w d ss node front happened.Lost = HostsKeep s w d ss

  module _ (s : Script) (is : ScheduleState → CellInput → Type 0) (w : WorldState D) (safe : IsSafe limit s w) (going : w.is_lost ≡ false) (place : length w.history < most_history_entries) (new : WorldState D) where
    -- this is the world, where memory was wanting
    wants_as : (e : WorldFault) (v : WorldState D) → e ≡ faulty.OutOfMemory → new ≡ v → Stepped seen may_leave faults limit s is w v (Err faulty.OutOfMemory) → Stepped seen may_leave faults limit s is w new (Err e)
    wants_as e v fault same stepped =
        subst (λ (f : WorldFault). Stepped seen may_leave faults limit s is w new (Err f)) (sym fault) (subst (λ (u : WorldState D). Stepped seen may_leave faults limit s is w u (Err faulty.OutOfMemory)) (sym same) stepped)

    pub node_settles : (d : DatabaseSeat D) (ss : List (ServerSeat D)) (node : Node) (front : Option Line) (what : Happened) (result : Result (Unit {0}) WorldFault) → Leaves s is w d ss node (front_lines front) what → Settles node front what (with_hosts w d ss) new result
        → Stepped seen may_leave faults limit s is w new result
    node_settles d ss node front happened.Nothing (Ok done) leaves settles =
        subst (λ (v : WorldState D). Stepped seen may_leave faults limit s is w v (Ok done)) (sym (settles ∙ ap (λ (v : WorldState D). record v { history = v.history ++ void_entry ∷ [] }) leaves.0))
        (nothing_happens s is w safe going place leaves.1)
    node_settles d ss node front happened.Nothing (Err e) leaves settles = wants_as e w settles.0 (settles.1 ∙ leaves.0) (nothing_changes s is w safe)
    node_settles d ss node front (happened.Step outs) (Ok done) leaves settles =
        subst (λ (v : WorldState D). Stepped seen may_leave faults limit s is w v (Ok done)) (sym settles) (step_told s is w d ss node (front_lines front) outs safe going place leaves.0 leaves.1.0 leaves.1.1)
    node_settles d ss node front (happened.Step outs) (Err e) leaves settles = wants_as e (lost_with w d ss) settles.0 settles.1 (step_loses s is w d ss safe leaves.0)
    node_settles d ss node front happened.Unchanged (Ok done) leaves settles = absurd settles
    node_settles d ss node front happened.Unchanged (Err e) leaves settles = wants_as e (with_hosts w d ss) settles.0 settles.1 (step_wants s is w d ss safe going leaves.0 leaves.1.0 leaves.1.1)
    node_settles d ss node front happened.Lost (Ok done) leaves settles = absurd settles
    node_settles d ss node front happened.Lost (Err e) leaves settles = wants_as e (lost_with w d ss) settles.0 settles.1 (step_loses s is w d ss safe leaves)
