-- What a crash leaves of a server's disk.
use Rattle.std.specs.Prelude.{◌≡◌, ℕ, List, Option, Some}
use Rattle.afs_num.specs.Places.{at_place}
use Rattle.afs_serverhost.specs.Seated.{seat_disk, ServerSeat}
use Rattle.afs_clients.specs.declared.happening.Happened.{Happened}
use Rattle.afs_clients.specs.declared.happening.Happened.TheVariants as happened
use Rattle.afs_clients.specs.declared.happening.ServerInput.{ServerInput}
use Rattle.afs_clients.specs.declared.happening.ServerInput.TheVariants as server

-- where a server crashes with this pick, its disk keeps what a crash with that pick leaves of it
abbrev pub LeavesPick : {D : Type 0} → (D → Option (List ℕ)) → (D → ℕ → Option (List ℕ)) → Happened → ServerInput → ServerSeat D → ServerSeat D → Type 0
LeavesPick {D} seen left_by (happened.Step outs) (server.Crash pick) old new = seen (seat_disk new) ≡ left_by (seat_disk old) pick
LeavesPick {D} seen left_by what input old new = Unit {0}

-- so it is of the server of this number
abbrev pub OneLeavesPick : {D : Type 0} → (D → Option (List ℕ)) → (D → ℕ → Option (List ℕ)) → ℕ → Happened → ServerInput → List (ServerSeat D) → List (ServerSeat D) → Type 0
OneLeavesPick {D} seen left_by i what input old new = (was now : ServerSeat D) → at_place old i ≡ Some was → at_place new i ≡ Some now → LeavesPick seen left_by what input was now
