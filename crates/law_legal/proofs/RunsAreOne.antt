-- The same inputs make one run.
use Rattle.spec_rows.specs.Runs.{Entry, Cell, Input, moved, Leads}
use Rattle.std.proofs.Common.{◌≡◌, ℕ, List, [], ◌∷◌, refl, sym, ap, ◌∙◌}

-- ---- the laws

-- the same inputs make one run
pub runs_one : (xs : List Input) (c : Cell) (h k : List Entry) (a b : Cell) → Leads c xs h a → Leads c xs k b → (h ≡ k) × (a ≡ b)
runs_one [] c [] [] a b r q = (refl, r ∙ sym q)
runs_one [] c [] (e ∷ k) a b r q = absurd q
runs_one [] c (e ∷ h) k a b r q = absurd r
runs_one (x ∷ xs) c [] k a b r q = absurd r
runs_one (x ∷ xs) c (e ∷ h) [] a b r q = absurd q
runs_one (x ∷ xs) c (e ∷ h) (f ∷ k) a b r q =
    let rest = runs_one xs (moved c x).cell h k a b r.1 q.1 in
    (ap (λ (y : Entry). y ∷ h) (r.0 ∙ sym q.0) ∙ ap (λ (ys : List Entry). f ∷ ys) rest.0, rest.1)
