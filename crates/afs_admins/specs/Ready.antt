-- What the seats of a cell's administrators must be for the next input.
use Rattle.std.specs.Prelude.{◌≤◌, ◌<◌, ℕ, List}
use Rattle.spec_history.specs.declared.scripts.Script.{Script}
use Rattle.afs_calling.specs.Calls.{number_limit}
use Rattle.afs_clients.specs.Places.{Each}
use Rattle.afs_admins.specs.Seating.{IsSeated}
use Rattle.afs_admins.specs.declared.admins.AdminSeat.{AdminSeat}

-- an administrator can be given something
pub record IsReadyAdminOf (s : Script) (n : ℕ) (seat : AdminSeat) : Type 0 where
  pub seated : IsSeated s n seat
  pub number : (1 ≤ n) × (n ≤ 4)
  pub last : seat.mover.state.last < number_limit
  pub epoch : seat.epoch < 4294967295

abbrev pub AllReadyAdmins : Script → List AdminSeat → Type 0
AllReadyAdmins s admins = Each (λ (n : ℕ) (seat : AdminSeat). IsReadyAdminOf s n seat) admins
