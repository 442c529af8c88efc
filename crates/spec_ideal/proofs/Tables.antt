-- What is found in a table after a change, and which numbers are free.
use Rattle.std.proofs.Common.{◌≡◌, ◌≢◌, ℕ, ◌+◌, ◌*◌, ◌%◌, ◌<◌, ◌≤◌, Bool, true, false, not, [], ◌∷◌, length, Some, None, is_some, nat_eq, nat_lt, if◌then◌else◌, arith, refl}
use Rattle.std.proofs.lemmas.Bool.Decides.{nat_tests}
use Rattle.spec_ideal.specs.Tables.{Table, get, set, unset, AscendsFrom, lowest_free}

-- ---- order

pub ascends_lower : {A : Type 0} (m n : ℕ) (t : Table A) → m ≤ n → AscendsFrom n t → AscendsFrom m t
ascends_lower {A} m n [] le up = tt
ascends_lower {A} m n (p ∷ ps) le up = (omega (arith, le, up.0), up.1)

-- nothing stands below the first
pub get_below : {A : Type 0} (m k : ℕ) (t : Table A) → k < m → AscendsFrom m t → get k t ≡ None
get_below {A} m k [] lt up = refl
get_below {A} m k (p ∷ ps) lt up = grind (arith, nat_tests, up.0, get_below (p.0 + 1) k ps (omega (arith, lt, up.0)) up.1)

set_ascends : {A : Type 0} (m n : ℕ) (x : A) (p : ℕ × A) (ps : Table A) (same below : Bool) → m ≤ n → AscendsFrom m (p ∷ ps) → nat_eq p.0 n ≡ same → nat_lt n p.0 ≡ below →
    (p.0 + 1 ≤ n → AscendsFrom (p.0 + 1) (set n x ps)) → AscendsFrom m (if same then (n, x) ∷ ps else (if below then (n, x) ∷ p ∷ ps else p ∷ set n x ps))
set_ascends {A} m n x p ps true below le up is is_below later = (le, ascends_lower (n + 1) (p.0 + 1) ps (grind (arith, nat_tests, is)) up.1)
set_ascends {A} m n x p ps false true le up is is_below later = (le, (let z : n + 1 ≤ p.0 = grind (arith, nat_tests, is_below) in z, up.1))
set_ascends {A} m n x p ps false false le up is is_below later = (up.0, later (grind (arith, nat_tests, is, is_below)))

pub ascends_set : {A : Type 0} (m n : ℕ) (x : A) (t : Table A) → m ≤ n → AscendsFrom m t → AscendsFrom m (set n x t)
ascends_set {A} m n x [] le up = (le, tt)
ascends_set {A} m n x (p ∷ ps) le up = set_ascends m n x p ps (nat_eq p.0 n) (nat_lt n p.0) le up refl refl (λ below. ascends_set (p.0 + 1) n x ps below up.1)

unset_ascends : {A : Type 0} (m n : ℕ) (p : ℕ × A) (ps : Table A) (keeps : Bool) → AscendsFrom m (p ∷ ps) → AscendsFrom (p.0 + 1) (unset n ps) → AscendsFrom m (if keeps then p ∷ unset n ps else unset n ps)
unset_ascends {A} m n p ps true up later = (up.0, later)
unset_ascends {A} m n p ps false up later = ascends_lower m (p.0 + 1) (unset n ps) (omega (arith, up.0)) later

pub ascends_unset : {A : Type 0} (m n : ℕ) (t : Table A) → AscendsFrom m t → AscendsFrom m (unset n t)
ascends_unset {A} m n [] up = tt
ascends_unset {A} m n (p ∷ ps) up = unset_ascends m n p ps (not (nat_eq p.0 n)) up (ascends_unset (p.0 + 1) n ps up.1)

-- ---- what is found

set_gets : {A : Type 0} (k n : ℕ) (x : A) (p : ℕ × A) (ps : Table A) (same below : Bool) → nat_eq p.0 n ≡ same → get k (set n x ps) ≡ (if nat_eq n k then Some x else get k ps) →
    get k (if same then (n, x) ∷ ps else (if below then (n, x) ∷ p ∷ ps else p ∷ set n x ps)) ≡ (if nat_eq n k then Some x else get k (p ∷ ps))
set_gets {A} k n x p ps true below is later = grind (arith, nat_tests, is)
set_gets {A} k n x p ps false true is later = refl
set_gets {A} k n x p ps false false is later = grind (arith, nat_tests, is, later)

pub get_set : {A : Type 0} (k n : ℕ) (x : A) (t : Table A) → get k (set n x t) ≡ (if nat_eq n k then Some x else get k t)
get_set {A} k n x [] = refl
get_set {A} k n x (p ∷ ps) = set_gets k n x p ps (nat_eq p.0 n) (nat_lt n p.0) refl (get_set k n x ps)

unset_gets : {A : Type 0} (k n : ℕ) (p : ℕ × A) (ps : Table A) (same : Bool) → nat_eq p.0 n ≡ same → get k (unset n ps) ≡ (if nat_eq n k then None else get k ps) →
    get k (if not same then p ∷ unset n ps else unset n ps) ≡ (if nat_eq n k then None else get k (p ∷ ps))
unset_gets {A} k n p ps true is later = grind (arith, nat_tests, is, later)
unset_gets {A} k n p ps false is later = grind (arith, nat_tests, is, later)

pub get_unset : {A : Type 0} (k n : ℕ) (t : Table A) → get k (unset n t) ≡ (if nat_eq n k then None else get k t)
get_unset {A} k n [] = grind (arith, nat_tests)
get_unset {A} k n (p ∷ ps) = unset_gets k n p ps (nat_eq p.0 n) refl (get_unset k n ps)

-- ---- free numbers

pub free_from : {A : Type 0} (n : ℕ) (t : Table A) → n ≤ lowest_free n t
free_from {A} n [] = omega arith
free_from {A} n (p ∷ ps) = grind (arith, nat_tests, free_from (n + 2) ps, free_from n ps)

pub free_bound : {A : Type 0} (n : ℕ) (t : Table A) → lowest_free n t ≤ n + 2 * length t
free_bound {A} n [] = omega arith
free_bound {A} n (p ∷ ps) = grind (arith, nat_tests, free_bound (n + 2) ps, free_bound n ps)

-- one that is taken isn't the lowest
pub free_above : {A : Type 0} (m n : ℕ) (t : Table A) → AscendsFrom m t → is_some (get n t) ≡ true → lowest_free n t ≡ lowest_free (n + 2) t
free_above {A} m n [] up taken = absurd cc
free_above {A} m n (p ∷ ps) up taken = grind (arith, nat_tests, up.0, taken, get_below (p.0 + 1) n ps, up.1, free_above (p.0 + 1) n ps up.1)

-- the lowest free number is free, and those of its parity below it are taken
pub free_is_free : {A : Type 0} (m n : ℕ) (t : Table A) → AscendsFrom m t → get (lowest_free n t) t ≡ None
free_is_free {A} m n [] up = refl
free_is_free {A} m n (p ∷ ps) up = grind (arith, nat_tests, up.0, get_below (p.0 + 1) n ps, up.1, free_from (n + 2) ps, free_from n ps, free_is_free (p.0 + 1) (n + 2) ps up.1, free_is_free (p.0 + 1) n ps up.1)

pub free_parity : {A : Type 0} (n : ℕ) (t : Table A) → lowest_free n t % 2 ≡ n % 2
free_parity {A} n [] = refl
free_parity {A} n (p ∷ ps) = grind (arith, nat_tests, free_parity (n + 2) ps, free_parity n ps, (let z : (n + 2) % 2 ≡ n % 2 = omega arith in z))

pub lower_taken : {A : Type 0} (n k : ℕ) (t : Table A) → n ≤ k → k < lowest_free n t → k % 2 ≡ n % 2 → is_some (get k t) ≡ true
lower_taken {A} n k [] le lt even = absurd (omega (arith, le, lt))
lower_taken {A} n k (p ∷ ps) le lt even =
    let later : k ≢ n → n + 2 ≤ k = λ differs. omega (arith, differs, le, even) in
    let parity : (n + 2) % 2 ≡ n % 2 = omega arith in
    grind (arith, nat_tests, le, lt, even, later, parity, lower_taken (n + 2) k ps, lower_taken n k ps)

-- a number that isn't taken is the lowest from itself on
pub free_here : {A : Type 0} (n : ℕ) (t : Table A) → is_some (get n t) ≡ false → lowest_free n t ≡ n
free_here {A} n [] free = refl
free_here {A} n (p ∷ ps) free = grind (arith, nat_tests, free, free_here n ps)
