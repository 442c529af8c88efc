-- Even numbers, and the last of a list of names.
use Rattle.std.proofs.Common.{◌≡◌, ◌==◌, ◌%◌, ◌++◌, ◌+◌, ℕ, zero, suc, Bool, true, false, cond, not, List, [], ◌∷◌, Some, None, length, refl, ap, ◌∙◌, arith}
use Rattle.spec_rows.specs.Going.{is_even, put_front, parted, parted_on}

odd_by : (b : Bool) (n : ℕ) → n % 2 ≡ cond b 0 1 → suc n % 2 ≡ cond (not b) 0 1
odd_by true n h = omega (arith, h)
odd_by false n h = omega (arith, h)

parity : (n : ℕ) → n % 2 ≡ cond (is_even n) 0 1
parity zero = refl
parity (suc n) = odd_by (is_even n) n (parity n)

even_by : (b : Bool) → (cond b 0 1 == 0) ≡ b
even_by true = refl
even_by false = refl

pub even_is : (n : ℕ) → (n % 2 == 0) ≡ is_even n
even_is n = ap (λ (m : ℕ). m == 0) (parity n) ∙ even_by (is_even n)

pub last_on : (first : List ℕ) (front : List (List ℕ)) (last : List ℕ) → parted_on first (front ++ last ∷ []) ≡ record { front = first ∷ front; last = last }
last_on first [] last = refl
last_on first (name ∷ front) last = ap (put_front first) (last_on name front last)

-- the last name, and those before it
pub last_of : (front : List (List ℕ)) (last : List ℕ) → parted (front ++ last ∷ []) ≡ Some (record { front = front; last = last })
last_of [] last = refl
last_of (name ∷ front) last = ap Some (last_on name front last)

pub none_of : (names : List (List ℕ)) → length names ≡ 0 → parted names ≡ None
none_of [] h = refl
none_of (name ∷ names) h = absurd cc
