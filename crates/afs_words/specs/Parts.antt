-- What a cutter of bytes has left.
use Rattle.std.specs.Prelude.{ℕ, List, [], Option, Some, None}
use Rattle.spec_model.specs.ScriptWords.{parts}

abbrev pub parts_left : ℕ → Option (List ℕ) → List (List ℕ)
parts_left cut None = []
parts_left cut (Some bytes) = parts cut bytes
