-- The place of the location database: the host that it is, up or down, its disk, and what the next input may rely on.
use Rattle.std.specs.Prelude.{◌≤◌, ◌+◌, ◌*◌, ℕ, List, Option}
use Rattle.spec_rows.specs.LocSteps.{LocHost}
use Rattle.afs_host.specs.LocSeats.{loc_disk_of, DatabaseRunning, IsLocDown, IsLocUp, LocCanRun}
use Rattle.afs_host.specs.Seats.{Resting}
use Rattle.afs_host.specs.declared.seats.Seat.{Seat}
use Rattle.afs_host.specs.declared.seats.Seat.TheVariants.{Down, Up}

abbrev pub DatabaseSeat : Type 0 → Type 0
DatabaseSeat D = Seat (DatabaseRunning D) (Resting D)

-- the database is the host, up or down
abbrev pub IsLocHost : {D : Type 0} → (D → Option (List ℕ)) → (D → List ℕ → Type 0) → (D → ℕ) → DatabaseSeat D → LocHost → Type 0
IsLocHost {D} seen may_leave limit (Up r) h = IsLocUp r h
IsLocHost {D} seen may_leave limit (Down s) h = IsLocDown seen may_leave limit s h

-- It can be given what comes next, in a history of so many entries: no step makes more than four device calls; setting up makes at
-- most twelve, a restart ten.
pub record IsLocReady {D : Type 0} (entries : ℕ) (r : DatabaseRunning D) : Type 0 where
  pub can_run : LocCanRun r
  pub device_calls : r.store.store.disk.calls ≤ 12 + 4 * entries

abbrev pub IsLocReadySeat : {D : Type 0} → ℕ → DatabaseSeat D → Type 0
IsLocReadySeat {D} entries (Up r) = IsLocReady entries r
IsLocReadySeat {D} entries (Down s) = Unit {0}

abbrev pub loc_seat_disk : {D : Type 0} → DatabaseSeat D → D
loc_seat_disk {D} (Up r) = loc_disk_of r
loc_seat_disk {D} (Down s) = s.disk
