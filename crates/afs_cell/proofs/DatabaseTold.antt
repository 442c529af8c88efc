-- What the world does with what happened at the location database.
use Rattle.std.proofs.Common.{refl, ap, sym, subst, ◌∙◌, ◌≡◌, ◌<◌, ◌+◌, ℕ, List, [], ◌∷◌, length, false, Option, Some, None, Result}
use Rattle.afs_num.specs.Places.{at_place}
use Rattle.afs_num.specs.declared.types.Node.TheVariants.{Loc, Server}
use Rattle.afs_num.specs.declared.types.Parcel.{Parcel}
use Rattle.spec_history.specs.declared.lines.Line.{Line}
use Rattle.spec_history.specs.declared.lines.Line.TheVariants as lines
use Rattle.spec_history.specs.declared.lines.Outs.{Outs}
use Rattle.spec_history.specs.declared.scripts.Event.TheVariants as events
use Rattle.spec_history.specs.declared.scripts.Script.{Script}
use Rattle.afs_disk.specs.Disk.{Rose}
use Rattle.spec_rows.specs.Hosts.{HostStep}
use Rattle.spec_rows.specs.LocRow.{LocState}
use Rattle.spec_rows.specs.LocSteps.{LocHost}
use Rattle.spec_runs.specs.NodeRuns.{CellInput}
use Rattle.afs_schedule.specs.Schedules.{IsInput, ScheduleState}
use Rattle.afs_clients.specs.Happening.{front_lines, IsGivenToLoc}
use Rattle.afs_cell.specs.DatabaseSteps.{database_seat, HasLocHeard, HasLocStep, IsLocFallen, IsVoidAtLoc, LocTakes}
use Rattle.afs_cell.specs.Happening.{Settles}
use Rattle.afs_cell.specs.SeatSteps.{IsStepOf}
use Rattle.afs_cell.specs.Steps.{IsAt, Stepped}
use Rattle.afs_cell.specs.Worlds.{most_history_entries, AllTell, IsSafe, WorldState}
use Rattle.afs_host.specs.LocSeated.{loc_seat_disk, DatabaseSeat}
use Rattle.afs_serverhost.specs.Seated.{ServerSeat, IsReadySeat}
use Rattle.afs_cell.specs.declared.faults.WorldFault.{WorldFault}
use Rattle.afs_clients.specs.declared.happening.DatabaseInput.{DatabaseInput}
use Rattle.afs_clients.specs.declared.happening.Happened.{Happened}
use Rattle.afs_clients.specs.declared.happening.Happened.TheVariants as happened
use Rattle.afs_clients.proofs.Numbers.{each_map}
use Rattle.afs_cell.proofs.DatabaseLinks.{link_loc_input, link_loc_message, void_loc_input, void_loc_message}
use Rattle.afs_cell.proofs.HostSteps.{database_plays, DatabaseLinked}
use Rattle.afs_cell.proofs.Links.{message_found, Voided}
use Rattle.afs_cell.proofs.Settled.{database_keeps, node_settles, ready_more, Leaves}

-- the world with this database
abbrev with_database : {D : Type 0} → WorldState D → DatabaseSeat D → WorldState D
with_database {D} w now = record w { database = now }

module _ {D : Type 0} (seen : D → Option (List ℕ)) (may_leave : D → List ℕ → Type 0) (faults limit : D → ℕ) (s : Script) (is : ScheduleState → CellInput → Type 0) (w : WorldState D) (front : Option Line)
    (IsVoid : LocHost → Type 0) (Has : LocHost → (HostStep LocState → Type 0) → Type 0 → Type 0) where
  abbrev Voids : Type 0
  Voids = AllTell seen w → (t : ScheduleState) → IsAt seen may_leave limit w t.cell t.left → IsVoid t.cell.loc → Voided (is t) t

  abbrev Links : Type 0
  Links = AllTell seen w → (t : ScheduleState) → IsAt seen may_leave limit w t.cell t.left → (now : DatabaseSeat D) (outs : Outs)
      → Has t.cell.loc (IsStepOf (database_seat seen may_leave limit) now (front_lines front) outs) (Rose (faults (loc_seat_disk w.database)) (faults (loc_seat_disk now))) → DatabaseLinked seen may_leave faults limit (is t) t w.database now (front_lines front) outs

  -- the servers can be given what comes next, one entry later too
  later : IsSafe limit s w → w.is_lost ≡ false → (j : ℕ) (z : ServerSeat D) → at_place w.servers j ≡ Some z → IsReadySeat (Server j) (length w.history + 1) z
  later safe going =
      each_map (λ (j : ℕ) (z : ServerSeat D). IsReadySeat (Server j) (length w.history) z) (λ (j : ℕ) (z : ServerSeat D). IsReadySeat (Server j) (length w.history + 1) z) w.servers (λ j z. ready_more j (length w.history) z) (safe.servers going)

  -- what it took leaves the world so
  takes_leaves : (now : DatabaseSeat D) (what : Happened) → IsSafe limit s w → w.is_lost ≡ false → LocTakes seen may_leave faults limit (front_lines front) IsVoid Has w.database now what → Voids → Links
      → Leaves seen may_leave faults limit s is w now w.servers Loc (front_lines front) what
  takes_leaves now happened.Nothing safe going takes voids links = (ap (with_database w) takes.happens.0, λ tell t at. voids tell t at (takes.happens.1 t.cell.loc at.cell.loc))
  takes_leaves now (happened.Step outs) safe going takes voids links = (
    database_keeps seen may_leave faults limit s w now takes.keeps,
    (
      record { database = takes.goes (length w.history) (safe.database going); servers = later safe going },
      λ tell t at. database_plays seen may_leave faults limit (is t) t w now (front_lines front) outs safe.sent takes.keeps.no_fewer at (links tell t at now outs (takes.happens tell.0 t.cell.loc at.cell.loc)),
    ),
  )
  takes_leaves now happened.Unchanged safe going takes voids links = (
    database_keeps seen may_leave faults limit s w now takes.keeps,
    (
      record { database = takes.goes (length w.history) (safe.database going); servers = safe.servers going },
      λ c cell. record { loc = takes.happens c.loc cell.loc; host_count = cell.host_count; hosts = cell.hosts; count = cell.count; clients = cell.clients; sent = cell.sent; clock = cell.clock; handed = cell.handed; admin_count = cell.admin_count; admins = cell.admins },
    ),
  )
  takes_leaves now happened.Lost safe going takes voids links = database_keeps seen may_leave faults limit s w now takes.keeps

  database_settles : (now : DatabaseSeat D) (what : Happened) (new : WorldState D) (result : Result (Unit {0}) WorldFault) → IsSafe limit s w → w.is_lost ≡ false → length w.history < most_history_entries
      → LocTakes seen may_leave faults limit (front_lines front) IsVoid Has w.database now what → Voids → Links → Settles Loc front what (with_database w now) new result → Stepped seen may_leave faults limit s is w new result
  database_settles now what new result safe going place takes voids links settles =
      node_settles seen may_leave faults limit s is w safe going place new now w.servers Loc front what result (takes_leaves now what safe going takes voids links) settles

module _ {D : Type 0} (seen : D → Option (List ℕ)) (may_leave : D → List ℕ → Type 0) (faults limit : D → ℕ) (s : Script) (w : WorldState D) where
  -- the database was given something
  pub loc_input_settles : (input : DatabaseInput) (now : DatabaseSeat D) (what : Happened) (new : WorldState D) (result : Result (Unit {0}) WorldFault) → IsSafe limit s w → w.is_lost ≡ false → length w.history < most_history_entries
      → ((clock count : ℕ) → LocTakes seen may_leave faults limit [] (IsVoidAtLoc input) (HasLocStep clock count input) w.database now what) → Settles Loc None what (with_database w now) new result
      → Stepped seen may_leave faults limit s (λ (t : ScheduleState). IsGivenToLoc input t) w new result
  loc_input_settles input now what new result safe going place takes settles =
      database_settles seen may_leave faults limit s (λ (t : ScheduleState). IsGivenToLoc input t) w None (IsVoidAtLoc input) (HasLocStep w.clock s.clients input) now what new result safe going place (takes w.clock s.clients)
      (λ tell t at void. void_loc_input t input void)
      (λ tell t at now outs has. link_loc_input seen may_leave faults limit t w.database now outs input
      (subst (λ (k : ℕ). HasLocStep t.cell.clock k input t.cell.loc (IsStepOf (database_seat seen may_leave limit) now [] outs) (Rose (faults (loc_seat_disk w.database)) (faults (loc_seat_disk now)))) (sym (at.cell.count ∙ safe.client_count))
      (subst (λ (k : ℕ). HasLocStep k s.clients input t.cell.loc (IsStepOf (database_seat seen may_leave limit) now [] outs) (Rose (faults (loc_seat_disk w.database)) (faults (loc_seat_disk now)))) (sym at.cell.clock) has)))
      settles

  -- the database was given the message of a place
  pub loc_message_settles : (place : ℕ) (p : Parcel) (now : DatabaseSeat D) (what : Happened) (new : WorldState D) (result : Result (Unit {0}) WorldFault) → IsSafe limit s w → w.is_lost ≡ false → length w.history < most_history_entries
      → at_place w.wire place ≡ Some p → p.head.to ≡ Loc → ((clock : ℕ) → LocTakes seen may_leave faults limit (lines.Given place ∷ []) IsLocFallen (HasLocHeard clock place p.bytes) w.database now what) → Settles Loc (Some (lines.Given place)) what (with_database w now) new result
      → Stepped seen may_leave faults limit s (λ (t : ScheduleState). IsInput t (events.Deliver place)) w new result
  loc_message_settles place p now what new result safe going few found to takes settles =
      database_settles seen may_leave faults limit s (λ (t : ScheduleState). IsInput t (events.Deliver place)) w (Some (lines.Given place)) IsLocFallen (HasLocHeard w.clock place p.bytes) now what new result safe going few (takes w.clock)
      (λ tell t at fallen.
      let f = message_found seen may_leave faults limit w t.cell place p at.cell found in
      void_loc_message t place f.message f.at (sym (ap (λ h. h.to) f.carries.head) ∙ to) fallen)
      (λ tell t at now outs heard. link_loc_message seen may_leave faults limit t w.database now outs w place p at.cell found to
      (subst (λ (k : ℕ). HasLocHeard k place p.bytes t.cell.loc (IsStepOf (database_seat seen may_leave limit) now (lines.Given place ∷ []) outs) (Rose (faults (loc_seat_disk w.database)) (faults (loc_seat_disk now)))) (sym at.cell.clock) heard))
      settles
