-- Lists that are gone through by places, and what is said of answers.
use Rattle.std.proofs.Common.{◌≡◌, ℕ, zero, suc, ◌+◌, ◌≤◌, List, [], ◌∷◌, length, drop, Option, Some, None, ap, ◌∙◌, refl, arith, slice_get}
use Rattle.std.specs.Prelude.{Result, Ok, Err, IfOk, OnOk}

-- ---- places

drop_next : {A : Type 0} (xs : List A) (i : ℕ) (x : A) → slice_get xs i ≡ Some x → drop i xs ≡ x ∷ drop (suc i) xs
drop_next {A} [] i x e = absurd cc
drop_next {A} (y ∷ ys) zero x e = ap (λ (z : A). z ∷ ys) (let is : y ≡ x = cc in is)
drop_next {A} (y ∷ ys) (suc i) x e = drop_next ys i x e

pub drop_step : {A : Type 0} (xs : List A) (i : ℕ) (x : A) → slice_get xs i ≡ Some x → drop i xs ≡ x ∷ drop (i + 1) xs
drop_step {A} xs i x e = drop_next xs i x e ∙ ap (λ (j : ℕ). x ∷ drop j xs) (let z : suc i ≡ i + 1 = omega arith in z)

pub drop_end : {A : Type 0} (xs : List A) (i : ℕ) → length xs ≤ i → drop i xs ≡ []
drop_end {A} [] i le = nothing i
  where
    nothing : (j : ℕ) → ◌≡◌ {A = List A} (drop j []) []
    nothing zero = refl
    nothing (suc j) = refl
drop_end {A} (y ∷ ys) zero le = absurd (omega (arith, le))
drop_end {A} (y ∷ ys) (suc i) le = drop_end ys i (omega (arith, le))

drop_past : {A : Type 0} (xs : List A) (i : ℕ) → slice_get xs i ≡ None → drop (suc i) xs ≡ drop i xs
drop_past {A} [] zero e = refl
drop_past {A} [] (suc i) e = refl
drop_past {A} (y ∷ ys) zero e = absurd cc
drop_past {A} (y ∷ ys) (suc i) e = drop_past ys i e

-- nothing stands in a place
pub drop_none : {A : Type 0} (xs : List A) (i : ℕ) → slice_get xs i ≡ None → drop (i + 1) xs ≡ drop i xs
drop_none {A} xs i e = ap (λ (j : ℕ). drop j xs) (let z : i + 1 ≡ suc i = omega arith in z) ∙ drop_past xs i e

-- ---- answers

pub on_ok : {T E : Type 0} (r : Result T E) (P Q : Type 0) → (P → Q) → OnOk r P → OnOk r Q
on_ok {T} {E} (Ok x) P Q f p = f p
on_ok {T} {E} (Err e) P Q f p = tt

pub if_ok : {T E : Type 0} (r : Result T E) (P Q : T → Type 0) → ((x : T) → P x → Q x) → IfOk r P → IfOk r Q
if_ok {T} {E} (Ok x) P Q f p = f x p
if_ok {T} {E} (Err e) P Q f p = tt
