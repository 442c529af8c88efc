-- No text tells the volumes that an entry brings, and no count of failures asks for them.
use Rattle.std.proofs.Common.{refl, ap, sym, ◌∙◌, ◌≡◌, ◌+◌, ℕ, List, [], ◌∷◌, ◌++◌, Bool, length, map}
use Rattle.std.proofs.lemmas.List.{length-map}
use Rattle.spec_rows.specs.Runs.{Entry}
use Rattle.spec_runs.specs.NodeRuns.{bare_entry, CellInput}
use Rattle.afs_text.specs.HistoryText.{entries_text, entry_text, history_text}
use Rattle.afs_cell.specs.Worlds.{falls_at, own_falls}

bare_text : (wire : Bool) (number place : ℕ) (h : List Entry) → entries_text wire number place (map bare_entry h) ≡ entries_text wire number place h
unfolding entry_text
bare_text wire number place [] = refl
bare_text wire number place (e ∷ es) = ap (λ (more : List ℕ). entry_text wire number place e ++ more) (bare_text wire (number + 1) (place + length e.sent) es)

-- what is told of a history is its text
pub bare_history : (wire : Bool) (h told : List Entry) → map bare_entry h ≡ told → history_text wire told ≡ history_text wire h
unfolding history_text
bare_history wire h told same = sym (ap (λ (es : List Entry). entries_text wire 1 1 es) same) ∙ bare_text wire 1 1 h

bare_falls : (i : ℕ) (xs : List CellInput) (h : List Entry) → own_falls i xs (map bare_entry h) ≡ own_falls i xs h
bare_falls i [] h = refl
bare_falls i (x ∷ xs) [] = refl
bare_falls i (x ∷ xs) (e ∷ es) = ap (λ (n : ℕ). falls_at i x e + n) (bare_falls i xs es)

pub told_falls : (i : ℕ) (xs : List CellInput) (h told : List Entry) → map bare_entry h ≡ told → own_falls i xs told ≡ own_falls i xs h
told_falls i xs h told same = sym (ap (own_falls i xs) same) ∙ bare_falls i xs h

pub told_length : (h told : List Entry) → map bare_entry h ≡ told → length told ≡ length h
told_length h told same = sym (ap (λ (es : List Entry). length es) same) ∙ length-map h bare_entry
