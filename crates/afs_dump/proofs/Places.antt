-- What is told place by place.
use Rattle.std.proofs.Common.{◌≡◌, ℕ, zero, suc, ◌+◌, List, [], ◌∷◌, ◌++◌, take, slice_get, refl, sym, ap, ◌∙◌, arith, append_assoc, append-nil}
use Rattle.std.specs.List.{flat_map}
use Rattle.afs_dump.specs.Telling.{told_at}

nothing_taken : {A : Type 0} (i : ℕ) → take {A = A} i [] ≡ []
nothing_taken {A} zero = refl
nothing_taken {A} (suc i) = refl

first_taken : {A : Type 0} (x : A) (xs : List A) → take (zero + 1) (x ∷ xs) ≡ x ∷ []
first_taken {A} x [] = refl
first_taken {A} x (y ∷ ys) = refl

next_taken : {A : Type 0} (x : A) (xs : List A) (i : ℕ) → take (suc i + 1) (x ∷ xs) ≡ x ∷ take (i + 1) xs
next_taken {A} x xs i = ap (λ (k : ℕ). take k (x ∷ xs)) (let z : suc i + 1 ≡ suc (i + 1) = omega arith in z)

pub one_more_told : {A : Type 0} (f : A → List ℕ) (t : List A) (i : ℕ) → flat_map f (take (i + 1) t) ≡ flat_map f (take i t) ++ told_at f (slice_get t i)
one_more_told {A} f [] i = rw (nothing_taken {A = A} (i + 1), nothing_taken {A = A} i) refl
one_more_told {A} f (x ∷ xs) zero = ap (flat_map f) (first_taken x xs) ∙ append-nil (f x)
one_more_told {A} f (x ∷ xs) (suc i) =
    ap (flat_map f) (next_taken x xs i)
    ∙ (ap (λ (z : List ℕ). f x ++ z) (one_more_told f xs i) ∙ sym (append_assoc (f x) (flat_map f (take i xs)) (told_at f (slice_get xs i))))

-- after one place more is told
pub more_told : {A : Type 0} (f : A → List ℕ) (t : List A) (i : ℕ) (first old new : List ℕ) → old ≡ first ++ flat_map f (take i t) → new ≡ old ++ told_at f (slice_get t i) → new ≡ first ++ flat_map f (take (i + 1) t)
more_told {A} f t i first old new so one =
    one ∙ (ap (λ (z : List ℕ). z ++ told_at f (slice_get t i)) so
    ∙ (append_assoc first (flat_map f (take i t)) (told_at f (slice_get t i)) ∙ ap (λ (z : List ℕ). first ++ z) (sym (one_more_told f t i))))
