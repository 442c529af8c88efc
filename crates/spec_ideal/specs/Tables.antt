-- Lists of pairs by ascending numbers: a map from numbers that can be gone through.
use Rattle.std.specs.Prelude.{◌≤◌, ℕ, ◌+◌, List, [], ◌∷◌, not, Option, Some, None, nat_eq, nat_lt, filter, if◌then◌else◌}

abbrev pub Table : Type 0 → Type 0
Table A = List (ℕ × A)

abbrev pub get : {A : Type 0} → ℕ → Table A → Option A
get {A} n [] = None
get {A} n (p ∷ ps) = if nat_eq p.0 n then Some p.1 else get n ps

abbrev pub set : {A : Type 0} → ℕ → A → Table A → Table A
set {A} n x [] = (n, x) ∷ []
set {A} n x (p ∷ ps) = if nat_eq p.0 n then (n, x) ∷ ps else (if nat_lt n p.0 then (n, x) ∷ p ∷ ps else p ∷ set n x ps)

abbrev pub unset : {A : Type 0} → ℕ → Table A → Table A
unset {A} n ps = filter (λ (p : ℕ × A). not (nat_eq p.0 n)) ps

-- the numbers ascend, from this one on
abbrev pub AscendsFrom : {A : Type 0} → ℕ → Table A → Type 0
AscendsFrom {A} n [] = Unit {0}
AscendsFrom {A} n (p ∷ ps) = (n ≤ p.0) × AscendsFrom (p.0 + 1) ps

-- the lowest of n, n + 2, n + 4 .. that an ascending table doesn't have
abbrev pub lowest_free : {A : Type 0} → ℕ → Table A → ℕ
lowest_free {A} n [] = n
lowest_free {A} n (p ∷ ps) = if nat_eq p.0 n then lowest_free (n + 2) ps else (if nat_lt n p.0 then n else lowest_free n ps)
