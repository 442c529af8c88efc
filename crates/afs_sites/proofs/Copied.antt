-- A table is copied item by item.
use Rattle.std.proofs.Common.{◌≡◌, ℕ, ◌+◌, [], ◌∷◌, ◌++◌, take, Some, ap, ◌∙◌}
use Rattle.std.specs.Prelude.{slice_get}
use Rattle.std.proofs.lemmas.List.{take_more}
use Rattle.std.proofs.lemmas.Option.{get_or_from_slice_get, slice_get_within}
use Rattle.spec_ideal.specs.Tables.{Table}

pub one_more : (t : Table ℕ) (i : ℕ) (x : ℕ × ℕ) → slice_get t i ≡ Some x → take (i + 1) t ≡ take i t ++ x ∷ []
one_more t i x at = take_more t i x (slice_get_within t i x at) ∙ ap (λ (y : ℕ × ℕ). take i t ++ y ∷ []) (get_or_from_slice_get t i x x at)
