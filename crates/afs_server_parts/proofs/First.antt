-- The first few of a list.
use Rattle.std.proofs.Common.{◌≡◌, ℕ, zero, suc, List, [], ◌∷◌, take, ap, refl}
use Rattle.spec_breaks.specs.declared.types.OwedBreak.{OwedBreak}
use Rattle.spec_rows.specs.Callbacks.{first_breaks}

pub first_taken : (k : ℕ) (os : List OwedBreak) → take k os ≡ first_breaks k os
first_taken zero [] = refl
first_taken zero (o ∷ os) = refl
first_taken (suc k) [] = refl
first_taken (suc k) (o ∷ os) = ap (λ (t : List OwedBreak). o ∷ t) (first_taken k os)
