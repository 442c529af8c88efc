-- Of the record of a boot.
use Rattle.std.specs.Prelude.{◌≡◌, ◌&&◌, Bool, true, false}
use Rattle.std.proofs.Common.{refl, arith}
use Rattle.spec_records.specs.Changes.{no_head}
use Rattle.spec_records.specs.Records.{head_form}

-- ---- the record of its boot

pub left_true : (a b : Bool) → (a && b) ≡ true → a ≡ true
left_true true b h = refl
left_true false b h = absurd cc

-- a record without a caller has an empty head
pub no_head_fits : head_form.Fits no_head
unfolding head_form
no_head_fits = ((omega (arith), (omega (arith), ((omega (arith), refl), (omega (arith), (omega (arith), omega (arith)))))), refl)
