-- The rest of a list, from one place on.
use Rattle.std.proofs.Common.{◌≡◌, ℕ, zero, suc, ◌<◌, List, [], ◌∷◌, drop, length, slice_index_or, refl, arith}

pub drop_step : {A : Type 0} (i k : ℕ) (xs : List A) (d : A) → k ≡ suc i → i < length xs → drop i xs ≡ slice_index_or xs i d ∷ drop k xs
drop_step {A} i k [] d next lt = absurd (omega (arith, lt))
drop_step {A} zero k (x ∷ xs) d next lt = rw next refl
drop_step {A} (suc i) k (x ∷ xs) d next lt = rw next (drop_step i (suc i) xs d refl (omega (arith, lt)))
