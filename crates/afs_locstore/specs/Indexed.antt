-- Pairs of what entries are found by and of entries' numbers. Several entries may have one number or name: a replaced entry may get
-- another read-write number, and then both stand. Of these the one with the lowest read-write number is found.
use Rattle.std.specs.Prelude.{◌≡◌, ◌&&◌, ◌||◌, ℕ, List, [], ◌∷◌, Bool, true, false, not, Option, Some, None, is_some, nat_eq, nat_lt, filter, if◌then◌else◌}
use Rattle.std.specs.List.{list_any, prefix_len}

-- ---- an order of what is searched for

-- One of two is below the other, or they are the same; and what is below stays so.
pub record IsOrder {K : Type 0} (below same : K → K → Bool) : Type 0 where
  pub irreflexive : (a : K) → below a a ≡ false
  pub passes : (a b c : K) → below a b ≡ true → below b c ≡ true → below a c ≡ true
  pub decides : (a b : K) → below a b ≡ false → below b a ≡ false → a ≡ b
  pub same_is : (a b : K) → same a b ≡ true → a ≡ b
  pub is_same : (a : K) → same a a ≡ true

-- ---- pairs

abbrev pub pair_below : {K : Type 0} → (K → K → Bool) → (K → K → Bool) → K → ℕ → K × ℕ → Bool
pair_below {K} below same k n p = below p.0 k || (same p.0 k && nat_lt p.1 n)

abbrev pub same_pair : {K : Type 0} → (K → K → Bool) → K → ℕ → K × ℕ → Bool
same_pair {K} same k n p = same p.0 k && nat_eq p.1 n

-- each is below the next
abbrev pub Ascend : {K : Type 0} → (K → K → Bool) → (K → K → Bool) → List (K × ℕ) → Type 0
Ascend {K} below same [] = Unit {0}
Ascend {K} below same (p ∷ []) = Unit {0}
Ascend {K} below same (p ∷ q ∷ ps) = (pair_below below same q.0 q.1 p ≡ true) × Ascend below same (q ∷ ps)

-- where a pair stands, or would stand
abbrev pub place_of : {K : Type 0} → (K → K → Bool) → (K → K → Bool) → K → ℕ → List (K × ℕ) → ℕ
place_of {K} below same k n ps = prefix_len (pair_below below same k n) ps

-- what stands in a place, if anything: its number, where it is under this; whether it is this pair
abbrev pub number_under : {K : Type 0} → (K → K → Bool) → K → Option (K × ℕ) → Option ℕ
number_under {K} same k None = None
number_under {K} same k (Some p) = if same p.0 k then Some p.1 else None

abbrev pub is_pair : {K : Type 0} → (K → K → Bool) → K → ℕ → Option (K × ℕ) → Bool
is_pair {K} same k n None = false
is_pair {K} same k n (Some p) = same_pair same k n p

-- ---- what is found and changed

abbrev pub holds_pair : {K : Type 0} → (K → K → Bool) → K → ℕ → List (K × ℕ) → Bool
holds_pair {K} same k n ps = list_any (same_pair same k n) ps

-- the lowest number under this
abbrev pub first_under : {K : Type 0} → (K → K → Bool) → K → List (K × ℕ) → Option ℕ
first_under {K} same k [] = None
first_under {K} same k (p ∷ ps) = if same p.0 k then Some p.1 else first_under same k ps

abbrev pub is_number : Option ℕ → ℕ → Bool
is_number None n = false
is_number (Some m) n = nat_eq n m

-- some number stands under this that isn't the one
abbrev pub another_under : {K : Type 0} → (K → K → Bool) → K → Option ℕ → List (K × ℕ) → Bool
another_under {K} same k but ps = list_any (λ (p : K × ℕ). same p.0 k && not (is_number but p.1)) ps

-- of the first two numbers under this, so far as there are any: one isn't the one
abbrev pub another_of : Option ℕ → Option ℕ → Option ℕ → Bool
another_of but None next = false
another_of but (Some n) next = not (is_number but n) || is_some next

abbrev pub with_pair : {K : Type 0} → (K → K → Bool) → (K → K → Bool) → K → ℕ → List (K × ℕ) → List (K × ℕ)
with_pair {K} below same k n [] = (k, n) ∷ []
with_pair {K} below same k n (p ∷ ps) =
    if same_pair same k n p then p ∷ ps else (if pair_below below same k n p then p ∷ with_pair below same k n ps else (k, n) ∷ p ∷ ps)

abbrev pub without_pair : {K : Type 0} → (K → K → Bool) → K → ℕ → List (K × ℕ) → List (K × ℕ)
without_pair {K} same k n ps = filter (λ (p : K × ℕ). not (same_pair same k n p)) ps

-- the pairs, and for how many more memory is there
pub record Pairs (K : Type 0) : Type 0 where
  pub pairs : List (K × ℕ)
  pub room : ℕ
