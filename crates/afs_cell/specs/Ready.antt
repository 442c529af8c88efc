-- What the seats of a cell's servers and of its location database must be for the next input.
use Rattle.std.specs.Prelude.{◌≤◌, ℕ, List}
use Rattle.afs_num.specs.Nodes.{IsNode}
use Rattle.afs_num.specs.declared.types.Node.TheVariants.{Server}
use Rattle.afs_cell.specs.DatabaseSteps.{LocCanStep}
use Rattle.afs_cell.specs.SeatSteps.{CanStep, IsSeatOf}
use Rattle.afs_clients.specs.Places.{Each}
use Rattle.afs_host.specs.LocSeated.{loc_seat_disk, DatabaseSeat}
use Rattle.afs_serverhost.specs.Seated.{seat_disk, ServerSeat}

-- a server can be given something, and is that of its number
pub record CanTake {D : Type 0} (limit : D → ℕ) (i : ℕ) (seat : ServerSeat D) : Type 0 where
  pub can : CanStep seat
  pub own : IsSeatOf (Server i) seat
  pub node : IsNode (Server i)
  pub few : limit (seat_disk seat) ≤ 268435456

abbrev pub AllCanStep : {D : Type 0} → (D → ℕ) → List (ServerSeat D) → Type 0
AllCanStep {D} limit servers = Each (λ (i : ℕ) (seat : ServerSeat D). CanTake limit i seat) servers

-- and the location database
pub record CanTakeAtLoc {D : Type 0} (limit : D → ℕ) (seat : DatabaseSeat D) : Type 0 where
  pub can : LocCanStep seat
  pub few : limit (loc_seat_disk seat) ≤ 268435456
