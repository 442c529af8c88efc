-- What becomes of the seat of the location database, which is given a message or crashes.
use Rattle.std.specs.Prelude.{◌≡◌, ◌<◌, ◌≤◌, ◌^◌, ℕ, List, Option, Some, None, Result, Ok, Err}
use Rattle.afs_disk.specs.declared.disk.Disk.{Ghosts}
use Rattle.spec_history.specs.declared.lines.Line.{Line}
use Rattle.afs_host.specs.LocSeated.{loc_seat_disk, DatabaseSeat}
use Rattle.afs_host.specs.LocSeats.{loc_disk_of, DatabaseRunning}
use Rattle.afs_host.specs.LocServing.{LocHasFallen}
use Rattle.afs_host.specs.declared.seats.Seat.TheVariants.{Down, Up}
use Rattle.afs_clients.specs.Happening.{ClientTells}
use Rattle.afs_clients.specs.declared.happening.DatabaseInput.{DatabaseInput}
use Rattle.afs_clients.specs.declared.happening.DatabaseInput.TheVariants as database
use Rattle.afs_clients.specs.declared.happening.Happened.{Happened}
use Rattle.afs_clients.specs.declared.happening.Happened.TheVariants as happened
use Rattle.afs_cell.specs.declared.faults.WorldFault.{WorldFault}

abbrev pub IsLocUpSeat : {D : Type 0} → DatabaseSeat D → Type 0
IsLocUpSeat {D} (Up r) = Unit {0}
IsLocUpSeat {D} (Down s) = ⊥

-- the database, which was up, has fallen, and that was told; or memory was wanting for that
abbrev pub LocSeatFalls : {D : Type 0} → Ghosts D → DatabaseSeat D → DatabaseSeat D → Happened → Type 0
LocSeatFalls {D} w (Up r) (Down s) (happened.Step outs) = (line : Line) × (LocHasFallen w r s line × ClientTells line outs)
LocSeatFalls {D} w (Up r) (Down s) happened.Lost = (line : Line) × LocHasFallen w r s line
LocSeatFalls {D} w old new what = ⊥

-- It is so of the seat and of what happened there; where its disk ended the step, of the seat once the database has fallen.
abbrev pub LocSeatBecomes : {D : Type 0} → Ghosts D → (DatabaseSeat D → Happened → Type 0) → DatabaseSeat D → Option Happened → Type 0
LocSeatBecomes {D} w Is seat (Some what) = Is seat what
LocSeatBecomes {D} w Is seat None = (fallen : DatabaseSeat D) (what : Happened) → LocSeatFalls w seat fallen what → Is fallen what

-- ---- what a crash leaves of its disk

-- where it crashes with this pick, its disk keeps what a crash with that pick leaves of it
abbrev pub LocLeavesPick : {D : Type 0} → (D → Option (List ℕ)) → (D → ℕ → Option (List ℕ)) → Happened → DatabaseInput → DatabaseSeat D → DatabaseSeat D → Type 0
LocLeavesPick {D} seen left_by (happened.Step outs) (database.Crash pick) old new = seen (loc_seat_disk new) ≡ left_by (loc_seat_disk old) pick
LocLeavesPick {D} seen left_by what input old new = Unit {0}

-- once the database, which was up, has crashed with this pick, its disk keeps what the pick says
abbrev pub IsPickedAtLoc : {D : Type 0} → (D → Option (List ℕ)) → (D → ℕ → Option (List ℕ)) → ℕ → DatabaseSeat D → DatabaseSeat D → Result (Unit {0}) WorldFault → Type 0
IsPickedAtLoc {D} seen left_by pick old new (Ok done) = (r : DatabaseRunning D) → old ≡ Up r → seen (loc_seat_disk new) ≡ left_by (loc_disk_of r) pick
IsPickedAtLoc {D} seen left_by pick old new (Err e) = Unit {0}
