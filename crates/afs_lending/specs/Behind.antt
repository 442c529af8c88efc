-- What is written behind a text.
use Rattle.std.specs.Prelude.{ℕ, List, ◌++◌, Option, Result}
use Rattle.afs_outside.specs.Outside.{Puts}
use Rattle.afs_outside.specs.declared.outside.Failed.{Failed}

-- Behind a text so far, these bytes were written, or none where that text wasn't written whole; whatever it is, and wherever it began.
abbrev pub PutsBehind : {T U : Type 0} → List ℕ → Option (List ℕ) → Option (List ℕ) → ℕ → ℕ → Result T Failed → Result U Failed → Type 0
PutsBehind {T} {U} bytes old new before after written result = (text : List ℕ) (start : Option (List ℕ)) (count : ℕ) → Puts text start old count before written → Puts (text ++ bytes) start new count after result
