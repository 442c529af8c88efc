-- The message of a place stands one before that place in the list.
use Rattle.std.proofs.Common.{◌≡◌, ℕ, zero, suc, ◌-◌, List, [], ◌∷◌, refl, ◌∙◌, ap, arith}
use Rattle.std.specs.Prelude.{slice_get}
use Rattle.afs_num.specs.Places.{at_place}

get_at : {A : Type 0} (xs : List A) (k : ℕ) → slice_get xs k ≡ at_place xs (suc k)
get_at [] k = refl
get_at (x ∷ xs) zero = refl
get_at (x ∷ xs) (suc k) = get_at xs k

pub get_before : {A : Type 0} (xs : List A) (place : ℕ) → (place ≡ 0 → ⊥) → slice_get xs (place - 1) ≡ at_place xs place
get_before xs zero some = absurd (some refl)
get_before xs (suc k) some = let same : suc k - 1 ≡ k = omega arith in ap (slice_get xs) same ∙ get_at xs k
