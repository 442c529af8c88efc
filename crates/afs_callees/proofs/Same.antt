-- As many times the same.
use Rattle.std.proofs.Common.{◌≡◌, ℕ, zero, suc, ◌<◌, List, [], ◌∷◌, ◌++◌, map, take, length, refl, ap, arith}

pub one_more_same : {A B : Type 0} (b : B) (i k : ℕ) (xs : List A) → k ≡ suc i → i < length xs → map (λ (x : A). b) (take k xs) ≡ map (λ (x : A). b) (take i xs) ++ b ∷ []
one_more_same {A} {B} b i k [] next lt = absurd (omega (arith, lt))
one_more_same {A} {B} b zero k (x ∷ xs) next lt = rw next refl
one_more_same {A} {B} b (suc i) k (x ∷ xs) next lt = rw next (ap (λ (t : List B). b ∷ t) (one_more_same b i (suc i) xs refl (omega (arith, lt))))
