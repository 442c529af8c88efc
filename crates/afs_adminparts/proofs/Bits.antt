-- A bit that is put into a number or taken out of it, as a sum and a difference.
use Rattle.std.proofs.Common.{◌≡◌, ◌<◌, ◌⊎◌, inl, inr, ℕ, zero, suc, ◌+◌, ◌-◌, ◌*◌, ◌/◌, ◌%◌, ◌^◌, Bool, true, false, cond, not, nat_eq, refl, subst, arith}
use Rattle.std.specs.Prelude.{bit_and, bit_or}
use Rattle.std.proofs.lemmas.Bool.{eqb-true}
use Rattle.std.proofs.lemmas.Nat.{and_comm, and-not}
use Rattle.std.proofs.lemmas.Nat.Bits.{and_pow}
use lib.Bits.{or_add_and}
use Rattle.spec_adminrows.specs.Entries.{with_bit, without_bit}

-- one bit of a number is 0, or the bit
one_or_none : (b p : ℕ) → b < 2 → (b * p ≡ 0) ⊎ (b * p ≡ p)
one_or_none zero p h = inl (omega arith)
one_or_none (suc zero) p h = inr (omega arith)
one_or_none (suc (suc b)) p h = absurd (omega (arith, h))

bit_of : (n k : ℕ) → (bit_and n (2 ^ k) ≡ 0) ⊎ (bit_and n (2 ^ k) ≡ 2 ^ k)
bit_of n k = rw (and_pow n k) (one_or_none (n / 2 ^ k % 2) (2 ^ k) (omega arith))

-- by the test whether the number has the bit
put_in : (none : Bool) (a n p o : ℕ) → nat_eq a 0 ≡ none → o + a ≡ n + p → (a ≡ 0) ⊎ (a ≡ p) → o ≡ cond (not none) n (n + p)
put_in true a n p o test sum h = let z = eqb-true a 0 test in omega (arith, sum, z)
put_in false a n p o test sum (inl z) = let bad : true ≡ false = subst (λ (m : ℕ). nat_eq m 0 ≡ false) z test in absurd cc
put_in false a n p o test sum (inr z) = omega (arith, sum, z)

pub with_bit_is : (n k : ℕ) → bit_or n (2 ^ k) ≡ with_bit (2 ^ k) n
with_bit_is n k = put_in (nat_eq (bit_and n (2 ^ k)) 0) (bit_and n (2 ^ k)) n (2 ^ k) (bit_or n (2 ^ k)) refl (or_add_and n (2 ^ k)) (bit_of n k)

taken_out : (none : Bool) (a n p o : ℕ) → nat_eq a 0 ≡ none → o + a ≡ n → (a ≡ 0) ⊎ (a ≡ p) → o ≡ cond (not none) (n - p) n
taken_out true a n p o test sum h = let z = eqb-true a 0 test in omega (arith, sum, z)
taken_out false a n p o test sum (inl z) = let bad : true ≡ false = subst (λ (m : ℕ). nat_eq m 0 ≡ false) z test in absurd cc
taken_out false a n p o test sum (inr z) = omega (arith, sum, z)

-- among the numbers of so many bits
pub without_bit_is : (w n k : ℕ) → n < 2 ^ w → 2 ^ k < 2 ^ w → bit_and n (2 ^ w - 1 - 2 ^ k) ≡ without_bit (2 ^ k) n
without_bit_is w n k fits small =
    let parts = and-not w (2 ^ k) n small fits in
    let sum : bit_and n (2 ^ w - 1 - 2 ^ k) + bit_and n (2 ^ k) ≡ n = omega (arith, and_comm n (2 ^ w - 1 - 2 ^ k), and_comm n (2 ^ k), parts) in
    taken_out (nat_eq (bit_and n (2 ^ k)) 0) (bit_and n (2 ^ k)) n (2 ^ k) _ refl sum (bit_of n k)
