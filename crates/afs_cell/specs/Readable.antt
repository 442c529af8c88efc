-- The servers whose disks are read at the end of a run.
use Rattle.std.specs.Prelude.{◌≡◌, ◌≤◌, ◌+◌, ℕ, List, [], ◌∷◌, false}
use Rattle.afs_num.specs.Nodes.{IsNode}
use Rattle.afs_num.specs.declared.types.Node.TheVariants.{Server}
use Rattle.afs_host.specs.declared.seats.Seat.TheVariants.{Down, Up}
use Rattle.afs_serverhost.specs.Seated.{seat_disk, ServerSeat}

-- no device call of a server that is up has failed
abbrev pub IsOpen : {D : Type 0} → ServerSeat D → Type 0
IsOpen {D} (Up r) = r.store.closed ≡ false
IsOpen {D} (Down s) = Unit {0}

-- the disk of the server of this number can be read: it is no longer than one may be, and while the server is up no device call of it
-- has failed
pub record IsReadable {D : Type 0} (limit : D → ℕ) (i : ℕ) (s : ServerSeat D) : Type 0 where
  pub node : IsNode (Server i)
  pub short : limit (seat_disk s) ≤ 268435456
  pub open_is : IsOpen s

-- so it is of each, by their numbers from this one on
abbrev pub AreReadable : {D : Type 0} → (D → ℕ) → ℕ → List (ServerSeat D) → Type 0
AreReadable {D} limit i [] = Unit {0}
AreReadable {D} limit i (s ∷ ss) = IsReadable limit i s × AreReadable limit (i + 1) ss
