-- Text that is laid in a piece before it is put.
use Rattle.std.specs.Prelude.{◌≡◌, ◌+◌, ◌/◌, ◌%◌, ℕ, List, [], ◌∷◌, ◌++◌, length, take, Option, Result, Ok, Err}
use Rattle.afs_outside.specs.Outside.{Puts}
use Rattle.afs_outside.specs.declared.outside.Failed.{Failed}

-- of what a piece held and this text behind it, a beginning was put, and the piece holds the rest; or, where a write failed,
-- no more than a beginning was put
abbrev pub Lays : {T : Type 0} → List ℕ → List ℕ → List ℕ → Option (List ℕ) → Option (List ℕ) → ℕ → ℕ → Result T Failed → Type 0
Lays {T = T} text before after old new f g (Ok u) = (front : List ℕ) × (front ++ after ≡ before ++ text) × Puts {T = T} front old new f g (Ok u)
Lays {T = T} text before after old new f g (Err e) = Puts {T = T} (before ++ text) old new f g (Err e)

-- this text was laid among bytes, behind the first of them; behind it is this place. Of the bytes that stand from there on nothing is said:
-- they may have been written over
pub record LaysAt (text : List ℕ) (at : ℕ) (old new : List ℕ) (behind : ℕ) : Type 0 where
  pub laid : take behind new ≡ take at old ++ text
  pub end : behind ≡ at + length text
  pub room : length new ≡ length old

-- the two halves of a byte
abbrev pub halves_of : ℕ → List ℕ
halves_of b = (b / 16) ∷ (b % 16) ∷ []
