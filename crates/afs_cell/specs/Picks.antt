-- What a crash leaves of a server's disk.
use Rattle.std.specs.Prelude.{◌≡◌, ℕ, List, Option, Some, Result, Ok, Err}
use Rattle.afs_num.specs.Places.{at_place}
use Rattle.afs_serverhost.specs.Seats.{disk_of, ServerRunning}
use Rattle.afs_host.specs.declared.seats.Seat.TheVariants.{Up}
use Rattle.afs_serverhost.specs.Seated.{seat_disk, ServerSeat}
use Rattle.afs_cell.specs.declared.faults.WorldFault.{WorldFault}
use Rattle.afs_clients.specs.declared.happening.Happened.{Happened}
use Rattle.afs_clients.specs.declared.happening.Happened.TheVariants as happened
use Rattle.afs_clients.specs.declared.happening.ServerInput.{ServerInput}
use Rattle.afs_clients.specs.declared.happening.ServerInput.TheVariants as server

-- once this server, which was up, has crashed with this pick, its disk keeps what the pick says
abbrev pub IsPicked : {D : Type 0} → (D → Option (List ℕ)) → (D → ℕ → Option (List ℕ)) → ℕ → ℕ → List (ServerSeat D) → List (ServerSeat D) → Result (Unit {0}) WorldFault → Type 0
IsPicked {D} seen left_by i pick old new (Ok done) = (r : ServerRunning D) (now : ServerSeat D) → at_place old i ≡ Some (Up r) → at_place new i ≡ Some now → seen (seat_disk now) ≡ left_by (disk_of r) pick
IsPicked {D} seen left_by i pick old new (Err e) = Unit {0}
