-- The lowest free number, looked for one vnode after the other.
use Rattle.std.proofs.Common.{◌≡◌, ℕ, suc, ◌+◌, ◌<◌, Bool, true, false, List, [], ◌∷◌, drop, nat_eq, nat_lt, if◌then◌else◌, refl, ap, sym, ◌∙◌, arith}
use Rattle.std.proofs.lemmas.Bool.Decides.{nat_tests}
use Rattle.afs_num.specs.declared.vnodes.Vnode.{Vnode}
use Rattle.spec_ideal.specs.Tables.{lowest_free}
use Rattle.afs_vnode.specs.Stores.{place_of, table_of}

-- those of lower numbers stand before it
passed : (n : ℕ) (v : Vnode) (vs : List Vnode) → v.vnode < n → lowest_free n (table_of (v ∷ vs)) ≡ lowest_free n (table_of vs)
passed n v vs lt =
    let other : nat_eq v.vnode n ≡ false = grind (arith, nat_tests, lt) in
    let lower : nat_lt n v.vnode ≡ false = grind (arith, nat_tests, lt) in
    rw (other, lower) refl

pub from_place : (n : ℕ) (vs : List Vnode) → lowest_free n (table_of (drop (place_of n vs) vs)) ≡ lowest_free n (table_of vs)
from_place n [] = refl
from_place n (v ∷ vs) = by (nat_lt v.vnode n) refl (from_place n vs)
  where
    by : (t : Bool) → nat_lt v.vnode n ≡ t → lowest_free n (table_of (drop (place_of n vs) vs)) ≡ lowest_free n (table_of vs) → lowest_free n (table_of (drop (if t then 1 + place_of n vs else 0) (v ∷ vs))) ≡ lowest_free n (table_of (v ∷ vs))
    by true e later = ap (λ (k : ℕ). lowest_free n (table_of (drop k (v ∷ vs)))) (let z : 1 + place_of n vs ≡ suc (place_of n vs) = omega arith in z) ∙ (later ∙ sym (passed n v vs (grind (arith, nat_tests, e))))
    by false e later = refl
