-- What things with numbers are, once one of them was changed in its place.
use Rattle.std.specs.Prelude.{◌+◌, ℕ}
use Rattle.std.specs.Borrow.{Fml, Lends, MutBor, RattleType}
use Rattle.afs_clients.specs.Places.{put_place, Room}
use Rattle.afs_clients.specs.contracts.places.Places.{the_row}

-- what the borrow leaves has the number that follows this, and the others are as they were
abbrev pub LendsPlace : (T : RattleType) → MutBor (Room T.Denot) → ℕ → MutBor T.Denot → Fml
LendsPlace T s i r = Lends (the_row T) T s r (λ w. record { items = put_place (i + 1) w s.now.items; room = s.now.room })
