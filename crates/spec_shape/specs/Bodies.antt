-- The fields of a message by the rows of its table: how they are read to the last byte, and what they make.
use Rattle.std.specs.Prelude.{ℕ, List, Option, Some, None, Result, Ok, Err}
use Rattle.spec_shape.specs.declared.faults.ShapeFault.{ShapeFault}
use Rattle.spec_shape.specs.declared.faults.ShapeFault.TheVariants as faults
use Rattle.spec_shape.specs.declared.kinds.Kind.{Kind}
use Rattle.spec_shape.specs.Reading.{◌>>=◌, fields_to_end_at}
use Rattle.spec_shape.specs.Tables.{kinds_in}
use Rattle.spec_shape.specs.Rows.{MessageTable, table_rows, message_of}

abbrev pub found_row : ℕ → Option (List Kind) → Result (List Kind) ShapeFault
found_row opcode None = Err (faults.NoRow opcode)
found_row opcode (Some ks) = Ok ks

-- the kinds of this opcode's row
abbrev pub row_at : {X : Type 0} → MessageTable X → ℕ → Result (List Kind) ShapeFault
row_at table opcode = found_row opcode (kinds_in opcode (table_rows table))

-- fields of a row's kinds make its message; no row makes one of other fields
abbrev pub made : {X : Type 0} → ℕ → Option X → Result X ShapeFault
made opcode (Some x) = Ok x
made opcode None = Err (faults.NoRow opcode)

-- the message of this opcode, from fields of these kinds
unfoldable pub body_at : {X : Type 0} → MessageTable X → ℕ → List Kind → List ℕ → Result X ShapeFault
body_at table opcode ks bytes = do
  fs ← fields_to_end_at ks bytes
  made opcode (message_of table opcode fs)
