-- In a safe world each node can be given the next input.
use Rattle.std.proofs.Common.{arith, ◌≡◌, ◌<◌, ℕ, length, false}
use Rattle.afs_num.specs.declared.types.Node.TheVariants.{Server}
use Rattle.spec_history.specs.declared.scripts.Script.{Script}
use Rattle.afs_host.specs.declared.seats.Seat.TheVariants.{Down, Up}
use Rattle.afs_cell.specs.SeatSteps.{CanStep, IsSeatOf}
use Rattle.afs_admins.specs.Ready.{AllReadyAdmins}
use Rattle.afs_clients.specs.Ready.{AllReady}
use Rattle.afs_cell.specs.DatabaseSteps.{LocCanStep}
use Rattle.afs_cell.specs.Ready.{AllCanStep, CanTakeAtLoc}
use Rattle.afs_host.specs.LocSeated.{DatabaseSeat, IsLocReadySeat}
use Rattle.afs_cell.specs.Worlds.{most_history_entries, IsSafe, WorldState}
use Rattle.afs_serverhost.specs.Seated.{IsReadySeat, ServerSeat}
use Rattle.afs_clients.proofs.Handed.{server_is_node}
use Rattle.afs_clients.proofs.Numbers.{place_within}

can_step : {D : Type 0} (i entries : ℕ) (seat : ServerSeat D) → entries < most_history_entries → IsReadySeat (Server i) entries seat → CanStep seat
can_step {D} i entries (Up r) few h = (h.can_run, (record { calls = omega (arith, h.calls_drawn, few); breaks = omega (arith, h.breaks_drawn, few) }, omega (arith, h.device_calls, few)))
can_step {D} i entries (Down s) few h = tt

loc_can_step : {D : Type 0} (entries : ℕ) (seat : DatabaseSeat D) → entries < most_history_entries → IsLocReadySeat entries seat → LocCanStep seat
loc_can_step {D} entries (Up r) few h = (h.can_run, omega (arith, h.device_calls, few))
loc_can_step {D} entries (Down s) few h = tt

own_seat : {D : Type 0} (i entries : ℕ) (seat : ServerSeat D) → IsReadySeat (Server i) entries seat → IsSeatOf (Server i) seat
own_seat {D} i entries (Up r) h = h.node
own_seat {D} i entries (Down s) h = tt

pub all_can : {D : Type 0} (limit : D → ℕ) (s : Script) (w : WorldState D) → IsSafe limit s w → w.is_lost ≡ false → length w.history < most_history_entries → AllCanStep limit w.servers
all_can {D} limit s w safe going few i seat found =
    let within = place_within w.servers i seat found in
    let ready = safe.servers going i seat found in
    record {
      can = can_step i (length w.history) seat few ready;
      own = own_seat i (length w.history) seat ready;
      node = server_is_node i within.0 (omega (arith, within.1, safe.server_count, safe.cell_script.servers.1));
      few = omega (arith, safe.disks.1 i seat found, safe.cell_script.capacity.1);
    }

-- so can the location database
pub loc_can : {D : Type 0} (limit : D → ℕ) (s : Script) (w : WorldState D) → IsSafe limit s w → w.is_lost ≡ false → length w.history < most_history_entries → CanTakeAtLoc limit w.database
loc_can {D} limit s w safe going few = record { can = loc_can_step (length w.history) w.database few (safe.database going); few = omega (arith, safe.disks.0, safe.cell_script.capacity.1) }

pub all_ready : {D : Type 0} (limit : D → ℕ) (s : Script) (w : WorldState D) → IsSafe limit s w → w.is_lost ≡ false → length w.history < most_history_entries → AllReady s w.clients
all_ready {D} limit s w safe going few n seat found =
    let within = place_within w.clients n seat found in
    let ready = safe.clients going n seat found in
    record {
      handed = ready.handed;
      number = (within.0, omega (arith, within.1, safe.client_count, safe.cell_script.clients));
      last = omega (arith, ready.last, few);
      epoch = omega (arith, ready.epoch, few);
    }

pub admins_ready : {D : Type 0} (limit : D → ℕ) (s : Script) (w : WorldState D) → IsSafe limit s w → w.is_lost ≡ false → length w.history < most_history_entries → AllReadyAdmins s w.admins
admins_ready {D} limit s w safe going few n seat found =
    let within = place_within w.admins n seat found in
    let ready = safe.admins going n seat found in
    record {
      seated = ready.seated;
      number = (within.0, omega (arith, within.1, safe.admin_count, safe.cell_script.admins));
      last = omega (arith, ready.last, few);
      epoch = omega (arith, ready.epoch, few);
    }
