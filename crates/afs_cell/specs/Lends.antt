-- The disks of a cell's nodes, as they are lent and go back.
use Rattle.std.specs.Prelude.{◌+◌, ℕ, List, [], ◌∷◌, Option, IsSome}
use Rattle.afs_disk.specs.declared.disks.Lent.{Lent}
use Rattle.afs_clients.specs.Places.{Each}
use Rattle.afs_host.specs.LocSeated.{loc_seat_disk}
use Rattle.afs_serverhost.specs.Seated.{seat_disk, ServerSeat}
use Rattle.afs_cell.specs.Worlds.{WorldState}

abbrev pub LentTell : {D : Type 0} → (D → Option (List ℕ)) → List (Lent D) → Type 0
LentTell {D} seen lent = Each (λ (i : ℕ) (l : Lent D). IsSome (seen l.disk)) lent

-- the disks of these servers, in order of number from this one on
abbrev pub lent_from : {D : Type 0} → ℕ → List (ServerSeat D) → List (Lent D)
lent_from {D} i [] = []
lent_from {D} i (s ∷ ss) = record { node = i; disk = seat_disk s } ∷ lent_from (i + 1) ss

-- those of a world: the location database's, and then the servers'
abbrev pub disks_of : {D : Type 0} → WorldState D → List (Lent D)
disks_of {D} w = record { node = 0; disk = loc_seat_disk w.database } ∷ lent_from 1 w.servers
