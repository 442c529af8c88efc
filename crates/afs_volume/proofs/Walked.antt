-- Going through a list place by place.
use Rattle.std.proofs.Common.{◌≡◌, ℕ, zero, suc, ◌+◌, ◌≤◌, Bool, true, false, List, [], ◌∷◌, length, drop, Some, slice_get, if◌then◌else◌, refl, sym, ap, ◌∙◌, arith, ◌<◌, get_or}
use Rattle.std.specs.Prelude.{◌&&◌, nat_eq, nat_lt, is_some, not}
use Rattle.std.specs.List.{list_all}
use Rattle.afs_num.specs.declared.vnodes.Vnode as image
use Rattle.std.proofs.lemmas.Bool.{le-ltb}
use Rattle.std.proofs.lemmas.Bool.Decides.{nat_tests}
use Rattle.spec_ideal.specs.Tables.{Table, get, AscendsFrom}
use Rattle.spec_ideal.specs.Volumes as ideal
use Rattle.spec_ideal.proofs.Tables.{get_below}
use Rattle.spec_records.specs.Sound.{ascends_from}
use Rattle.afs_volume.specs.Assembling.{passes_at}
use Rattle.afs_volume.specs.Seen.{seen, all_seen}

next_drop : {A : Type 0} (x : A) (xs : List A) (i : ℕ) → drop (suc i + 1) (x ∷ xs) ≡ drop (i + 1) xs
next_drop {A} x xs i = ap (λ (k : ℕ). drop k (x ∷ xs)) (let z : suc i + 1 ≡ suc (i + 1) = omega arith in z)

nothing_left : {A : Type 0} (i : ℕ) → drop {A = A} i [] ≡ []
nothing_left {A} zero = refl
nothing_left {A} (suc i) = refl

pub walk_step : {A : Type 0} (q : A → Bool) (xs : List A) (i : ℕ) → list_all q (drop i xs) ≡ (passes_at q (slice_get xs i) && list_all q (drop (i + 1) xs))
walk_step {A} q [] i = rw (nothing_left {A = A} i, nothing_left {A = A} (i + 1)) refl
walk_step {A} q (y ∷ ys) zero = refl
walk_step {A} q (y ∷ ys) (suc i) = walk_step q ys i ∙ ap (λ (zs : List A). passes_at q (slice_get ys i) && list_all q zs) (sym (next_drop y ys i))

pub goes_on : {A : Type 0} (q : A → Bool) (xs : List A) (i : ℕ) → passes_at q (slice_get xs i) ≡ true → list_all q (drop (i + 1) xs) ≡ list_all q (drop i xs)
goes_on {A} q xs i e = sym (walk_step q xs i ∙ rw e refl)

pub stops : {A : Type 0} (q : A → Bool) (xs : List A) (i : ℕ) → passes_at q (slice_get xs i) ≡ false → list_all q (drop i xs) ≡ false
stops {A} q xs i e = walk_step q xs i ∙ rw e refl

pub walk_end : {A : Type 0} (q : A → Bool) (xs : List A) (i : ℕ) → length xs ≤ i → list_all q (drop i xs) ≡ true
walk_end {A} q [] i le = rw (nothing_left {A = A} i) refl
walk_end {A} q (y ∷ ys) zero le = absurd (omega (arith, le))
walk_end {A} q (y ∷ ys) (suc i) le = walk_end q ys i (omega (arith, le))

pub all_seen_pass : (q : ℕ × ideal.Vnode → Bool) (t : Table image.Vnode) → list_all q (all_seen t) ≡ list_all (λ (p : ℕ × image.Vnode). q (p.0, seen p.1)) t
unfolding all_seen
all_seen_pass q [] = refl
all_seen_pass q (p ∷ ps) = ap (λ (b : Bool). q (p.0, seen p.1) && b) (all_seen_pass q ps)

ascends_seen : (n : ℕ) (t : Table image.Vnode) → AscendsFrom n t → ascends_from n (all_seen t) ≡ true
unfolding all_seen
ascends_seen n [] up = refl
ascends_seen n (p ∷ ps) up = rw (le-ltb p.0 n up.0) (ascends_seen (p.0 + 1) ps up.1)

first_by : (p : ℕ × image.Vnode) (ps : Table image.Vnode) (b : Bool) → nat_eq p.0 0 ≡ b → AscendsFrom (p.0 + 1) ps → (not (nat_lt p.0 1) && ascends_from (p.0 + 1) (all_seen ps)) ≡ not (is_some (if b then Some p.1 else get 0 ps))
first_by p ps true is up = let z : nat_lt p.0 1 ≡ true = grind (arith, nat_tests, is) in rw z refl
first_by p ps false is up = let z : nat_lt p.0 1 ≡ false = grind (arith, nat_tests, is) in rw (z, ascends_seen (p.0 + 1) ps up, get_below (p.0 + 1) 0 ps (omega arith) up) refl

pub from_one : (t : Table image.Vnode) → AscendsFrom 0 t → ascends_from 1 (all_seen t) ≡ not (is_some (get 0 t))
unfolding all_seen
from_one [] up = refl
from_one (p ∷ ps) up = first_by p ps (nat_eq p.0 0) refl up.1

-- the names from this place on
pub from_place : {A : Type 0} (xs : List A) (i : ℕ) (x : A) → i < length xs → (d : A) → x ≡ get_or xs i d → drop i xs ≡ x ∷ drop (i + 1) xs
from_place {A} [] i x lt d is = absurd (omega (arith, lt))
from_place {A} (y ∷ ys) zero x lt d is = ap (λ (z : A). z ∷ ys) (sym is)
from_place {A} (y ∷ ys) (suc i) x lt d is = from_place ys i x (omega (arith, lt)) d is ∙ ap (λ (zs : List A). x ∷ zs) (sym (next_drop y ys i))
