-- What the seats of a cell's clients must be for the next input.
use Rattle.std.specs.Prelude.{◌≤◌, ◌<◌, ℕ, List}
use Rattle.spec_history.specs.declared.scripts.Script.{Script}
use Rattle.afs_cache.specs.Managing.{number_limit}
use Rattle.afs_clients.specs.Places.{Each}
use Rattle.afs_clients.specs.Seating.{IsHanded}
use Rattle.afs_clients.specs.declared.clients.ClientSeat.{ClientSeat}

-- a client can be given something
pub record IsReadySeatOf (s : Script) (n : ℕ) (seat : ClientSeat) : Type 0 where
  pub handed : IsHanded s n seat
  pub number : (1 ≤ n) × (n ≤ 16)
  pub last : seat.client.state.client.last < number_limit
  pub epoch : seat.epoch < 4294967295

abbrev pub AllReady : Script → List ClientSeat → Type 0
AllReady s clients = Each (λ (n : ℕ) (seat : ClientSeat). IsReadySeatOf s n seat) clients
