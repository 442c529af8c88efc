-- A list tells the volumes of a family, place by place.
use Rattle.std.proofs.Common.{◌≡◌, ◌≤◌, ◌+◌, ℕ, zero, suc, Bool, true, false, cond, List, [], ◌∷◌, map, length, take, Option, Some, None, refl, sym, ap, ◌∙◌, arith}
use Rattle.std.specs.Prelude.{filter, slice_get, IfSome}
use Rattle.std.specs.List.{AllByRecursion}
use Rattle.afs_num.specs.declared.volume_calls.ListedVolume.{ListedVolume}
use Rattle.spec_ideal.specs.Tables.{Table}
use Rattle.spec_records.specs.Durable.{Stored}
use Rattle.spec_volrows.specs.VolRow.{is_of_family, volume_listed}
use Rattle.afs_volanswers.specs.Looking.{listed_before, listed_there, with_one}

-- the first one is of the family, or isn't
behind_by : (b : Bool) (p : ℕ × Stored) (rest more : Table Stored) (o : Option ListedVolume) → with_one (map volume_listed rest) o ≡ map volume_listed more →
    with_one (map volume_listed (cond b (p ∷ rest) rest)) o ≡ map volume_listed (cond b (p ∷ more) more)
behind_by true p rest more None same = ap (λ (vs : List ListedVolume). volume_listed p ∷ vs) same
behind_by true p rest more (Some v) same = ap (λ (vs : List ListedVolume). volume_listed p ∷ vs) same
behind_by false p rest more o same = same

here_by : (b : Bool) (p : ℕ × Stored) → with_one [] (cond b (Some (volume_listed p)) None) ≡ map volume_listed (cond b (p ∷ []) [])
here_by true p = refl
here_by false p = refl

next_at : (family i : ℕ) (t : Table Stored) → with_one (listed_before family i t) (listed_there family (slice_get t i)) ≡ listed_before family (suc i) t
next_at family zero [] = refl
next_at family (suc i) [] = refl
next_at family zero (p ∷ t) = here_by (is_of_family family p) p
next_at family (suc i) (p ∷ t) =
    behind_by (is_of_family family p) p (filter (is_of_family family) (take i t)) (filter (is_of_family family) (take (suc i) t)) (listed_there family (slice_get t i)) (next_at family i t)

-- with what is told of one more place
pub next_listed : (family i : ℕ) (t : Table Stored) (o : Option ListedVolume) → o ≡ listed_there family (slice_get t i) → with_one (listed_before family i t) o ≡ listed_before family (i + 1) t
next_listed family i t o is =
    let one : i + 1 ≡ suc i = omega arith in
    ap (with_one (listed_before family i t)) is ∙ (next_at family i t ∙ ap (λ (n : ℕ). listed_before family n t) (sym one))

taken_all : {A : Type 0} (n : ℕ) (xs : List A) → length xs ≤ n → take n xs ≡ xs
taken_all {A} zero [] le = refl
taken_all {A} (suc n) [] le = refl
taken_all {A} zero (x ∷ xs) le = absurd (omega (arith, le))
taken_all {A} (suc n) (x ∷ xs) le = ap (λ (ys : List A). x ∷ ys) (taken_all n xs (omega (arith, le)))

-- behind the last place all are told
pub all_listed : (family n : ℕ) (t : Table Stored) → length t ≤ n → listed_before family n t ≡ map volume_listed (filter (is_of_family family) t)
all_listed family n t le = ap (λ (u : Table Stored). map volume_listed (filter (is_of_family family) u)) (taken_all n t le)

-- ---- no more are told than places, each within its limits

pub one_longer : (vs : List ListedVolume) (o : Option ListedVolume) → length (with_one vs o) ≤ length vs + 1
one_longer vs None = omega arith
one_longer [] (Some v) = omega arith
one_longer (w ∷ vs) (Some v) = let rest = one_longer vs (Some v) in omega (arith, rest)

pub all_with : (P : ListedVolume → Type 0) (vs : List ListedVolume) (o : Option ListedVolume) → AllByRecursion P vs → IfSome o P → AllByRecursion P (with_one vs o)
all_with P vs None all one = all
all_with P [] (Some v) all one = (one, tt)
all_with P (w ∷ vs) (Some v) all one = (all.0, all_with P vs (Some v) all.1 one)
