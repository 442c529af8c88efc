-- A table's row is that of the list of its rows.
use Rattle.std.proofs.Common.{◌≡◌, ℕ, Bool, true, false, cond, List, [], ◌∷◌, Option, Some, None, refl, ap, sym, ◌∙◌}
use Rattle.std.specs.Prelude.{◌==◌, find}
use Rattle.std.specs.Option.{option_map}
use Rattle.spec_shape.specs.declared.kinds.Kind.{Kind}
use Rattle.afs_fields.specs.declared.tables.Row.{Row}
use Rattle.spec_shape.specs.Tables.{kinds_of, kinds_in}
use Rattle.afs_fields.specs.TableRows.{find_row, told_row, rows_of}

found : {N : ℕ} (b : Bool) (r : Row N) (o : Option (Row N)) (p : Option (ℕ × List Kind)) → option_map (λ x. kinds_of x.shape.kinds) o ≡ option_map (λ x. x.1) p
    → option_map (λ x. kinds_of x.shape.kinds) (cond b (Some r) o) ≡ option_map (λ x. x.1) (cond b (Some (told_row r)) p)
found true r o p h = refl
found false r o p h = h

rows_told : {N : ℕ} (n : ℕ) (rows : List (Row N)) → option_map (λ x. kinds_of x.shape.kinds) (find_row n rows) ≡ kinds_in n (rows_of rows)
rows_told n [] = refl
rows_told n (r ∷ rows) = found (r.opcode == n) r (find_row n rows) (find (λ p. p.0 == n) (rows_of rows)) (rows_told n rows)

pub row_kinds : {N : ℕ} (n : ℕ) (rows : List (Row N)) (r : Row N) → find_row n rows ≡ Some r → kinds_in n (rows_of rows) ≡ Some (kinds_of r.shape.kinds)
row_kinds {N} n rows r e = sym (rows_told n rows) ∙ ap (λ (o : Option (Row N)). option_map (λ x. kinds_of x.shape.kinds) o) e

pub no_row_kinds : {N : ℕ} (n : ℕ) (rows : List (Row N)) → find_row n rows ≡ None → kinds_in n (rows_of rows) ≡ None
no_row_kinds {N} n rows e = sym (rows_told n rows) ∙ ap (λ (o : Option (Row N)). option_map (λ x. kinds_of x.shape.kinds) o) e
