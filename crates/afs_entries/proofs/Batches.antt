-- How many promises go in one call.
use Rattle.std.proofs.Common.{◌≡◌, ◌≤◌, ℕ, zero, suc, Bool, true, false, cond, List, [], ◌∷◌, take, length, get_or, refl, ap, ◌∙◌, arith}
use Rattle.afs_num.specs.Nodes.{same_node}
use Rattle.afs_num.specs.declared.types.Node.{Node}
use Rattle.spec_rows.specs.States.{Gift}
use Rattle.spec_rows.specs.ClientRow.{batch, batch_to}

pub none_left : (s : Node) (k : ℕ) → length (batch_to s k []) ≡ 0
none_left s zero = refl
none_left s (suc k) = refl

pub no_room : (s : Node) (k : ℕ) (gs : List Gift) → k ≡ 0 → length (batch_to s k gs) ≡ 0
no_room s zero gs h = refl
no_room s (suc k) gs h = absurd cc

pub other_server : (s : Node) (k : ℕ) (g : Gift) (gs : List Gift) → same_node g.server s ≡ false → length (batch_to s k (g ∷ gs)) ≡ 0
other_server s zero g gs h = refl
other_server s (suc k) g gs h = rw h refl

pub one_goes : (s : Node) (k j : ℕ) (g : Gift) (gs : List Gift) → k ≡ suc j → same_node g.server s ≡ true → length (batch_to s k (g ∷ gs)) ≡ suc (length (batch_to s j gs))
one_goes s zero j g gs e h = absurd cc
one_goes s (suc k) j g gs e h = let same : k ≡ j = omega (arith, e) in rw h (ap (λ (n : ℕ). suc (length (batch_to s n gs))) same)

few_by : (b : Bool) (g : Gift) (rest : List Gift) (k n : ℕ) → length rest ≤ k → length rest ≤ n → (length (cond b (g ∷ rest) []) ≤ suc k) × (length (cond b (g ∷ rest) []) ≤ suc n)
few_by true g rest k n h i = (omega (arith, h), omega (arith, i))
few_by false g rest k n h i = (omega arith, omega arith)

few_to : (s : Node) (k : ℕ) (gs : List Gift) → (length (batch_to s k gs) ≤ k) × (length (batch_to s k gs) ≤ length gs)
few_to s zero gs = (omega arith, omega arith)
few_to s (suc k) [] = (omega arith, omega arith)
few_to s (suc k) (g ∷ gs) = few_by (same_node g.server s) g (batch_to s k gs) k (length gs) (few_to s k gs).0 (few_to s k gs).1

pub few : (gs : List Gift) → (length (batch gs) ≤ 50) × (length (batch gs) ≤ length gs)
few [] = (omega arith, omega arith)
few (g ∷ gs) = few_to g.server 50 (g ∷ gs)

front_by : (b : Bool) (g : Gift) (gs rest : List Gift) → take (length rest) gs ≡ rest → take (length (cond b (g ∷ rest) [])) (g ∷ gs) ≡ cond b (g ∷ rest) []
front_by true g gs rest h = ap (λ (xs : List Gift). g ∷ xs) h
front_by false g gs rest h = refl

front_to : (s : Node) (k : ℕ) (gs : List Gift) → take (length (batch_to s k gs)) gs ≡ batch_to s k gs
front_to s zero gs = refl
front_to s (suc k) [] = refl
front_to s (suc k) (g ∷ gs) = front_by (same_node g.server s) g gs (batch_to s k gs) (front_to s k gs)

-- the batch stands in front
pub front : (gs : List Gift) → take (length (batch gs)) gs ≡ batch gs
front [] = refl
front (g ∷ gs) = front_to g.server 50 (g ∷ gs)

pub batch_first : (gs : List Gift) (g : Gift) (s : Node) → 1 ≤ length gs → g ≡ get_or gs 0 g → s ≡ g.server → length (batch_to s 50 gs) ≡ length (batch gs)
batch_first [] g s some at is = absurd (omega (arith, some))
batch_first (x ∷ xs) g s some at is = ap (λ (n : Node). length (batch_to n 50 (x ∷ xs))) (is ∙ ap (λ (y : Gift). y.server) at)
