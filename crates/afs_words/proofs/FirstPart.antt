-- The first part of bytes, and the others.
use Rattle.std.proofs.Common.{◌≡◌, ℕ, ◌<◌, ◌≤◌, ◌+◌, List, [], ◌∷◌, length, take, drop, nat_eq, arith, ap, sym, ◌∙◌}
use Rattle.std.specs.List.{position_or_len}
use Rattle.std.proofs.lemmas.List.Splits.{slice_split_first, slice_split_none, length-slice_split}
use Rattle.std.proofs.lemmas.List.Sums.{fails_before_first}
use Rattle.spec_model.specs.ScriptWords.{parts}

abbrev place : ℕ → List ℕ → ℕ
place cut bytes = position_or_len (λ b. nat_eq b cut) bytes

pub first_part : (cut at : ℕ) (bytes front back : List ℕ) → at ≡ position_or_len (λ b. nat_eq b cut) bytes → at < length bytes → front ≡ take at bytes → back ≡ drop (at + 1) bytes → parts cut bytes ≡ front ∷ parts cut back
first_part cut at bytes front back e lt f b =
    let lt' : place cut bytes < length bytes = omega (arith, e) in
    slice_split_first (λ b. nat_eq b cut) bytes 0 lt'
    ∙ (ap (λ (n : ℕ). take n bytes ∷ parts cut (drop (n + 1) bytes)) (sym e)
    ∙ (ap (λ (l : List ℕ). l ∷ parts cut (drop (at + 1) bytes)) (sym f)
    ∙ ap (λ (l : List ℕ). front ∷ parts cut l) (sym b)))

pub only_part : (cut at : ℕ) (bytes : List ℕ) → at ≡ position_or_len (λ b. nat_eq b cut) bytes → length bytes ≤ at → parts cut bytes ≡ bytes ∷ []
only_part cut at bytes e le = slice_split_none (λ b. nat_eq b cut) bytes (λ k d lt. fails_before_first (λ b. nat_eq b cut) bytes k d (omega (arith, e)))

pub some_part : (cut : ℕ) (bytes : List ℕ) → 0 < length (parts cut bytes)
some_part cut bytes = omega (arith, length-slice_split (λ b. nat_eq b cut) bytes)
