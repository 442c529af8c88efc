-- Numbers with a sign.
use Rattle.std.proofs.Common.{◌≡◌, ℕ, ℤ, pos, negsuc, Bool, true, false, int_le, unsigned_abs, refl}
use Rattle.std.specs.Fmt.{decimal, signed_decimal}

-- a number that isn't below 0 has none
pub no_minus : (z : ℤ) → int_le (pos 0) z ≡ true → decimal (unsigned_abs z) ≡ signed_decimal z
no_minus (pos n) h = refl
no_minus (negsuc n) h = cc
