-- What more words than three ask.
use Rattle.std.proofs.Common.{◌≡◌, ℕ, ◌≤◌, List, [], ◌∷◌, length, map, None, refl, arith}
use Rattle.afs_command.specs.Forms.{options_in}

pub four_ask_nothing : {A : Type 0} (f : A → List ℕ) (words : List A) → 4 ≤ length words → None ≡ options_in (map f words)
four_ask_nothing f [] few = absurd (omega (arith, few))
four_ask_nothing f (a ∷ []) few = absurd (omega (arith, few))
four_ask_nothing f (a ∷ b ∷ []) few = absurd (omega (arith, few))
four_ask_nothing f (a ∷ b ∷ c ∷ []) few = absurd (omega (arith, few))
four_ask_nothing f (a ∷ b ∷ c ∷ d ∷ more) few = refl
