-- The rows of a table of shapes.
use Rattle.std.specs.Prelude.{ℕ, ◌==◌, List, Option, find, map}
use Rattle.spec_shape.specs.declared.kinds.Kind.{Kind}
use Rattle.afs_fields.specs.declared.tables.Row.{Row}
use Rattle.spec_shape.specs.Tables.{kinds_of}

abbrev pub find_row : {N : ℕ} → ℕ → List (Row N) → Option (Row N)
find_row n rows = find (λ r. r.opcode == n) rows

-- a row, as its opcode and the kinds of its fields
abbrev pub told_row : {N : ℕ} → Row N → ℕ × List Kind
told_row r = (r.opcode, kinds_of r.shape.kinds)

abbrev pub rows_of : {N : ℕ} → List (Row N) → List (ℕ × List Kind)
rows_of rows = map told_row rows
