-- Things that have numbers, from 1 on.
use Rattle.std.specs.Prelude.{◌≡◌, ◌≤◌, ◌+◌, ◌-◌, ℕ, zero, suc, List, [], ◌∷◌, length, Some}
use Rattle.std.specs.List.{insert}
use Rattle.afs_num.specs.Places.{at_place}

-- so it is of each, with its number
abbrev pub Each : {A : Type 0} → (ℕ → A → Type 0) → List A → Type 0
Each {A} P xs = (n : ℕ) (x : A) → at_place xs n ≡ Some x → P n x

-- another one at this number
abbrev pub put_place : {A : Type 0} → ℕ → A → List A → List A
put_place n x [] = []
put_place zero x (y ∷ ys) = y ∷ ys
put_place (suc zero) x (y ∷ ys) = x ∷ ys
put_place (suc (suc n)) x (y ∷ ys) = y ∷ put_place (suc n) x ys

-- things at their numbers, and room for so many more
pub record Room (A : Type 0) : Type 0 where
  pub items : List A
  pub room : ℕ

-- The one of this number was taken out: whatever is put in there then has its place.
pub record IsLifted {A : Type 0} (n : ℕ) (old new : Room A) (x : A) : Type 0 where
  pub found : at_place old.items n ≡ Some x
  pub back : (y : A) → insert new.items (n - 1) y ≡ put_place n y old.items
  pub number : (1 ≤ n) × (n ≤ length new.items + 1)
  pub room : new.room ≡ old.room + 1
