-- What a loop over a list has before it and behind it, and bytes.
use Rattle.std.proofs.Common.{◌≡◌, ℕ, zero, suc, ◌<◌, List, [], ◌∷◌, ◌++◌, drop, take, length, slice_get, slice_index_or, Some, refl, ap, arith, ◌∙◌, append-nil}
use Rattle.std.specs.List.{flat_map}
use Rattle.std.proofs.lemmas.List.Concat.{flat_map-append}
use Rattle.afs_xdr.specs.Words.{IsBytes}

none_of : {A : Type 0} (i : ℕ) → drop {A = A} i [] ≡ []
none_of {A} zero = refl
none_of {A} (suc i) = refl

none_until : {A : Type 0} (i : ℕ) → take {A = A} i [] ≡ []
none_until {A} zero = refl
none_until {A} (suc i) = refl

pub drop_step : {A : Type 0} (i k : ℕ) (xs : List A) (d : A) → k ≡ suc i → i < length xs → drop i xs ≡ slice_index_or xs i d ∷ drop k xs
drop_step {A} i k [] d next lt = absurd (omega (arith, lt))
drop_step {A} zero k (x ∷ xs) d next lt = rw next refl
drop_step {A} (suc i) k (x ∷ xs) d next lt = rw next (drop_step i (suc i) xs d refl (omega (arith, lt)))

pub take_step : {A : Type 0} (i k : ℕ) (xs : List A) (d : A) → k ≡ suc i → i < length xs → take k xs ≡ take i xs ++ slice_index_or xs i d ∷ []
take_step {A} i k [] d next lt = absurd (omega (arith, lt))
take_step {A} zero k (x ∷ xs) d next lt = rw next refl
take_step {A} (suc i) k (x ∷ xs) d next lt = rw next (ap (λ (ys : List A). x ∷ ys) (take_step i (suc i) xs d refl (omega (arith, lt))))

pub get_here : {A : Type 0} (i : ℕ) (xs : List A) (d : A) → i < length xs → slice_get xs i ≡ Some (slice_index_or xs i d)
get_here {A} i [] d lt = absurd (omega (arith, lt))
get_here {A} zero (x ∷ xs) d lt = refl
get_here {A} (suc i) (x ∷ xs) d lt = get_here i xs d (omega (arith, lt))

-- what stood first in the list still does
pub still_first : {A : Type 0} (first live later : List A) → take (length first) live ≡ first → take (length live) later ≡ live → take (length first) later ≡ first
still_first {A} [] live later a b = refl
still_first {A} (x ∷ xs) [] later a b = absurd cc
still_first {A} (x ∷ xs) (y ∷ ys) [] a b = absurd cc
still_first {A} (x ∷ xs) (y ∷ ys) (z ∷ zs) a b =
    let own : y ≡ x = cc in
    let same : z ≡ y = cc in
    let tail : take (length xs) ys ≡ xs = cc in
    let more : take (length ys) zs ≡ ys = cc in
    ap (λ (w : A). w ∷ take (length xs) zs) (same ∙ own) ∙ ap (λ (ws : List A). x ∷ ws) (still_first xs ys zs tail more)

-- what was put behind other bytes is taken away again
pub front_again : {A : Type 0} (xs ys : List A) → take (length xs) (xs ++ ys) ≡ xs
front_again {A} [] ys = refl
front_again {A} (x ∷ xs) ys = ap (λ (zs : List A). x ∷ zs) (front_again xs ys)

-- one more is spelled after the others
pub one_more : {A : Type 0} (f : A → List ℕ) (xs : List A) (x : A) → flat_map f (xs ++ x ∷ []) ≡ flat_map f xs ++ f x
one_more {A} f xs x = flat_map-append f xs (x ∷ []) ∙ ap (λ (t : List ℕ). flat_map f xs ++ t) (append-nil (f x))

-- ---- bytes

pub no_bytes : IsBytes []
no_bytes = λ i. omega arith

both_bytes : (xs ys : List ℕ) (i : ℕ) → IsBytes xs → IsBytes ys → slice_index_or (xs ++ ys) i 0 < 256
both_bytes [] ys i a b = b i
both_bytes (x ∷ xs) ys zero a b = a zero
both_bytes (x ∷ xs) ys (suc i) a b = both_bytes xs ys i (λ j. a (suc j)) b

pub bytes_with : (xs ys : List ℕ) → IsBytes xs → IsBytes ys → IsBytes (xs ++ ys)
bytes_with xs ys a b = λ i. both_bytes xs ys i a b
