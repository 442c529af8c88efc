-- The places of messages.
use Rattle.std.specs.Prelude.{ℕ, zero, suc, List, [], ◌∷◌, Option, Some, None}

-- what stands at a place: the first has place 1, and nothing has place 0
abbrev pub at_place : {A : Type 0} → List A → ℕ → Option A
at_place [] place = None
at_place (x ∷ xs) zero = None
at_place (x ∷ xs) (suc zero) = Some x
at_place (x ∷ xs) (suc (suc place)) = at_place xs (suc place)
