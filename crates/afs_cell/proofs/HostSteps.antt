-- A step of a node with a disk, in the world and in the cell for which it stands.
use Rattle.std.proofs.Common.{refl, ap, ap₂, sym, subst, ◌∙◌, ◌≡◌, ◌≤◌, ◌+◌, ℕ, List, [], ◌∷◌, ◌++◌, length, Bool, cond, Option, Some}
use Rattle.std.proofs.lemmas.Bool.{eq-eqb}
use Rattle.afs_num.specs.Places.{at_place}
use Rattle.afs_num.specs.declared.histories.Actor.{Actor}
use Rattle.afs_num.specs.declared.histories.Actor.TheVariants as actors
use Rattle.afs_num.specs.declared.messages.Message.{Message}
use Rattle.afs_num.specs.declared.types.Node.TheVariants.{Loc, Server}
use Rattle.afs_num.specs.declared.types.Node.{Node}
use Rattle.spec_history.specs.declared.scripts.Task.{Task}
use Rattle.spec_history.specs.declared.lines.Line.{Line}
use Rattle.spec_history.specs.declared.lines.Outs.{Outs}
use Rattle.spec_rows.specs.Callbacks.{put}
use Rattle.spec_rows.specs.Runs.{Entry}
use Rattle.spec_runs.specs.NodeRuns.{bare_entry, loc_stepped, node_moved, server_stepped, CellInput, NodeCell, NodeMoved}
use Rattle.afs_schedule.specs.Schedules.{left_by, ScheduleState}
use Rattle.afs_text.specs.Telling.{entries_as_told, sent_by}
use Rattle.spec_rows.specs.Hosts.{HostStep}
use Rattle.spec_rows.specs.LocRow.{LocState}
use Rattle.spec_volrows.specs.VolStates.{NodeState}
use Rattle.afs_clients.specs.Happening.{entry_of}
use Rattle.afs_cell.specs.DatabaseSteps.{database_seat}
use Rattle.afs_cell.specs.SeatSteps.{server_seat, IsStepOf, SeatKind}
use Rattle.afs_clients.specs.Places.{put_place, Each}
use Rattle.afs_cell.specs.Steps.{IsAt, Plays}
use Rattle.afs_cell.specs.Worlds.{own_failures, falls_at, Counts, WorldState}
use Rattle.afs_host.specs.LocSeated.{loc_seat_disk, DatabaseSeat}
use Rattle.afs_serverhost.specs.Seated.{seat_disk, IsHost, ServerSeat}
use Rattle.afs_cell.proofs.Counts.{counts_put, loc_counts_put, Blames}
use Rattle.afs_cell.proofs.Parcels.{messages_of-read, messages_spelled-append, parcels_read-append, told-push}
use Rattle.afs_clients.proofs.Numbers.{each_put, length_put}

-- the world with this database and these servers
abbrev pub with_hosts : {D : Type 0} → WorldState D → DatabaseSeat D → List (ServerSeat D) → WorldState D
with_hosts {D} w d ss = record w { database = d; servers = ss }

-- and once a step of this node was told
abbrev pub after_step : {D : Type 0} → WorldState D → DatabaseSeat D → List (ServerSeat D) → Node → List Line → Outs → WorldState D
after_step {D} w d ss node front outs = record w {
  database = d;
  servers = ss;
  wire = w.wire ++ outs.parcels;
  history = w.history ++ entry_of node (front ++ outs.lines) (length outs.parcels) ∷ [];
}

abbrev pub entry_with : Actor → List Line → List Message → Entry
entry_with actor ls ms = record { actor = actor; lines = ls; sent = ms; volumes = [] }

module _ {D : Type 0} (seen : D → Option (List ℕ)) (may_leave : D → List ℕ → Type 0) (faults limit : D → ℕ) where
  hosts_placed : (c : NodeCell) (i : ℕ) (was now : ServerSeat D) (servers : List (ServerSeat D)) (s : HostStep NodeState) → at_place servers i ≡ Some was → IsHost seen may_leave limit (Server i) now s.host
      → Each (λ (j : ℕ) (z : ServerSeat D). IsHost seen may_leave limit (Server j) z (c.hosts j)) servers → Each (λ (j : ℕ) (z : ServerSeat D). IsHost seen may_leave limit (Server j) z (put i s.host c.hosts j)) (put_place i now servers)
  hosts_placed c i was now servers s found good each =
      each_put (λ (j : ℕ) (z : ServerSeat D). IsHost seen may_leave limit (Server j) z (c.hosts j)) (λ (j : ℕ) (z : ServerSeat D). IsHost seen may_leave limit (Server j) z (put i s.host c.hosts j)) i now was servers found each
      (λ j z apart h. subst (λ (b : Bool). IsHost seen may_leave limit (Server j) z (cond b s.host (c.hosts j))) (sym apart) h)
      (subst (λ (b : Bool). IsHost seen may_leave limit (Server i) now (cond b s.host (c.hosts i))) (sym (eq-eqb i i refl)) good)

  -- the world stands for the cell after a server's step
  at_placed : (w : WorldState D) (c : NodeCell) (left : Node → List Task) (i : ℕ) (was now : ServerSeat D) (front : List Line) (outs : Outs) (s : HostStep NodeState) → at_place w.servers i ≡ Some was → IsStepOf (server_seat seen may_leave limit (Server i)) now front outs s
      → IsAt seen may_leave limit w c left → IsAt seen may_leave limit (after_step w w.database (put_place i now w.servers) (Server i) front outs) (server_stepped c i s).cell left
  at_placed w c left i was now front outs s found good at = record {
    cell = record {
      loc = at.cell.loc;
      host_count = at.cell.host_count ∙ sym (length_put i now w.servers);
      hosts = hosts_placed c i was now w.servers s found good.host at.cell.hosts;
      count = at.cell.count;
      clients = at.cell.clients;
      sent = parcels_read-append w.wire outs.parcels ∙ ap₂ (λ a b. a ++ b) at.cell.sent good.sent ∙ sym (messages_spelled-append c.sent s.sent);
      clock = at.cell.clock;
      handed = at.cell.handed;
      admin_count = at.cell.admin_count;
      admins = at.cell.admins;
    };
    acts = at.acts;
    orders = at.orders;
  }

  -- and after one of the location database
  at_loc_placed : (w : WorldState D) (c : NodeCell) (left : Node → List Task) (now : DatabaseSeat D) (front : List Line) (outs : Outs) (s : HostStep LocState) → IsStepOf (database_seat seen may_leave limit) now front outs s
      → IsAt seen may_leave limit w c left → IsAt seen may_leave limit (after_step w now w.servers Loc front outs) (loc_stepped c s).cell left
  at_loc_placed w c left now front outs s good at = record {
    cell = record {
      loc = good.host;
      host_count = at.cell.host_count;
      hosts = at.cell.hosts;
      count = at.cell.count;
      clients = at.cell.clients;
      sent = parcels_read-append w.wire outs.parcels ∙ ap₂ (λ a b. a ++ b) at.cell.sent good.sent ∙ sym (messages_spelled-append c.sent s.sent);
      clock = at.cell.clock;
      handed = at.cell.handed;
      admin_count = at.cell.admin_count;
      admins = at.cell.admins;
    };
    acts = at.acts;
    orders = at.orders;
  }

  -- a step that an input gives to a node, which so has its place in the cell
  pub record Linked {U S : Type 0} (kind : SeatKind D U S) (places : HostStep S → NodeMoved) (is : CellInput → Type 0) (t : ScheduleState) (was now : U) (front : List Line) (outs : Outs) : Type 0 where
    pub input : CellInput
    pub is_one : is input
    pub step : HostStep S
    pub moves : node_moved t.cell input ≡ places step
    pub left : left_by input t.left ≡ t.left
    pub good : IsStepOf kind now front outs step
    pub blames : Blames faults (own_failures input) (kind.disk was) (kind.disk now)

  -- what such a step comes to in the cell, and in the world
  pub record Stands {U S : Type 0} (kind : SeatKind D U S) (places : HostStep S → NodeMoved) (node : Node) (w : WorldState D) (d : DatabaseSeat D) (ss : List (ServerSeat D)) (t : ScheduleState) (was now : U) (front : List Line) (outs : Outs) : Type 0 where
    pub entry : (s : HostStep S) → bare_entry (places s).entry ≡ entry_with (actors.Node node) s.lines s.sent
    pub at : (s : HostStep S) → IsStepOf kind now front outs s → IsAt seen may_leave limit (after_step w d ss node front outs) (places s).cell t.left
    pub counts : (x : CellInput) (e : Entry) → e.actor ≡ actors.Node node → Blames faults (own_failures x) (kind.disk was) (kind.disk now) → (own : ℕ → ℕ) → Counts faults own w → Counts faults (λ (j : ℕ). own j + falls_at j x e) (with_hosts w d ss)

  plays : {U S : Type 0} (kind : SeatKind D U S) (places : HostStep S → NodeMoved) (node : Node) (is : CellInput → Type 0) (t : ScheduleState) (w : WorldState D) (d : DatabaseSeat D) (ss : List (ServerSeat D)) (was now : U) (front : List Line) (outs : Outs) → sent_by w.history ≡ length w.wire
      → Stands kind places node w d ss t was now front outs → Linked kind places is t was now front outs → Plays seen may_leave faults limit is t w (after_step w d ss node front outs)
  plays kind places node is t w d ss was now front outs all stands link = record {
    input = link.input;
    is_one = link.is_one;
    history =
        told-push w.wire outs.parcels w.history (entry_of node (front ++ outs.lines) (length outs.parcels)) all refl
        ∙ ap (λ (e : Entry). entries_as_told w.wire w.history ++ e ∷ [])
        (ap₂ (λ (ls : List Line) (ms : List Message). entry_with (actors.Node node) ls ms) link.good.lines (messages_of-read outs.parcels link.step.sent link.good.sent)
        ∙ sym (ap (λ (m : NodeMoved). bare_entry m.entry) link.moves ∙ stands.entry link.step));
    at =
        subst (λ (left : Node → List Task). IsAt seen may_leave limit (after_step w d ss node front outs) (node_moved t.cell link.input).cell left) (sym link.left)
        (subst (λ (m : NodeMoved). IsAt seen may_leave limit (after_step w d ss node front outs) m.cell t.left) (sym link.moves) (stands.at link.step link.good));
    counts = stands.counts link.input (node_moved t.cell link.input).entry (ap (λ (m : NodeMoved). m.entry.actor) link.moves ∙ ap (λ (e : Entry). e.actor) (stands.entry link.step)) link.blames;
  }

  abbrev pub ServerLinked : (CellInput → Type 0) → ScheduleState → ℕ → ServerSeat D → ServerSeat D → List Line → Outs → Type 0
  ServerLinked is t i was now front outs = Linked (server_seat seen may_leave limit (Server i)) (λ (s : HostStep NodeState). server_stepped t.cell i s) is t was now front outs

  pub server_plays : (is : CellInput → Type 0) (t : ScheduleState) (w : WorldState D) (i : ℕ) (was now : ServerSeat D) (front : List Line) (outs : Outs) → sent_by w.history ≡ length w.wire → at_place w.servers i ≡ Some was
      → faults (seat_disk was) ≤ faults (seat_disk now) → IsAt seen may_leave limit w t.cell t.left → ServerLinked is t i was now front outs → Plays seen may_leave faults limit is t w (after_step w w.database (put_place i now w.servers) (Server i) front outs)
  server_plays is t w i was now front outs all found le at link =
      plays (server_seat seen may_leave limit (Server i)) (λ (s : HostStep NodeState). server_stepped t.cell i s) (Server i) is t w w.database (put_place i now w.servers) was now front outs all
      (record { entry = λ s. refl; at = λ s good. at_placed w t.cell t.left i was now front outs s found good at; counts = λ x e actor blames. counts_put faults i x e was now w actor found le blames }) link

  abbrev pub DatabaseLinked : (CellInput → Type 0) → ScheduleState → DatabaseSeat D → DatabaseSeat D → List Line → Outs → Type 0
  DatabaseLinked is t was now front outs = Linked (database_seat seen may_leave limit) (λ (s : HostStep LocState). loc_stepped t.cell s) is t was now front outs

  pub database_plays : (is : CellInput → Type 0) (t : ScheduleState) (w : WorldState D) (now : DatabaseSeat D) (front : List Line) (outs : Outs) → sent_by w.history ≡ length w.wire
      → faults (loc_seat_disk w.database) ≤ faults (loc_seat_disk now) → IsAt seen may_leave limit w t.cell t.left → DatabaseLinked is t w.database now front outs → Plays seen may_leave faults limit is t w (after_step w now w.servers Loc front outs)
  database_plays is t w now front outs all le at link =
      plays (database_seat seen may_leave limit) (λ (s : HostStep LocState). loc_stepped t.cell s) Loc is t w now w.servers w.database now front outs all
      (record { entry = λ s. refl; at = λ s good. at_loc_placed w t.cell t.left now front outs s good at; counts = λ x e actor blames. loc_counts_put faults x e now w actor le blames }) link
