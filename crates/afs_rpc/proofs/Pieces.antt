-- Bytes that are appended one behind the other.
use Rattle.std.proofs.Common.{◌≡◌, ℕ, List, ◌++◌, ap, ◌∙◌, append_assoc}

pub three_pieces : (a b c w x y : List ℕ) → w ≡ a → x ≡ w ++ b → y ≡ x ++ c → y ≡ a ++ (b ++ c)
three_pieces a b c w x y p q r = r ∙ (ap (λ (l : List ℕ). l ++ c) (q ∙ ap (λ (l : List ℕ). l ++ b) p) ∙ append_assoc a b c)
