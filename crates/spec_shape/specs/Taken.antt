-- What is taken from the fields of a message while they are read.
use Rattle.std.specs.Prelude.{◌≡◌, ℕ, ◌+◌, List, ◌∷◌, length, Option, Some, Result, Ok, Err}
use Rattle.afs_xdr.specs.Words.{end_at}
use Rattle.spec_shape.specs.declared.faults.ShapeFault.{ShapeFault}
use Rattle.spec_shape.specs.declared.faults.ShapeFault.TheVariants as faults
use Rattle.spec_shape.specs.declared.kinds.Kind.{Kind}
use Rattle.spec_shape.specs.declared.kinds.Field.{Field}
use Rattle.spec_shape.specs.Reading.{◌>>=◌, in_place, fields_at, fields_to_end_at}
use Rattle.spec_shape.specs.Rows.{MessageTable}
use Rattle.spec_shape.specs.Bodies.{row_at}

-- where this field stands first, it is taken, and the others are left
abbrev pub IsFirst : {A : Type 0} → (A → Field) → (List Field → Option (A × List Field)) → Type 0
IsFirst {A} field first = (x : A) (fs : List Field) → first (field x ∷ fs) ≡ Some (x, fs)

-- fields of these kinds, the first of them in this place of the message, and nothing behind the last
unfoldable pub fields_from_at : ℕ → List Kind → List ℕ → Result (List Field) ShapeFault
fields_from_at place ks bytes = do
  fs ← fields_at place ks bytes
  nothing ← in_place (length fs.0 + place) (end_at fs.1)
  Ok fs.0

-- the fields of a message of this opcode, and nothing behind the last
abbrev pub row_fields_at : {X : Type 0} → MessageTable X → ℕ → List ℕ → Result (List Field) ShapeFault
row_fields_at table opcode bytes = row_at table opcode >>= λ ks. fields_to_end_at ks bytes

-- What is returned is taken of the fields that were read, unless memory ran out.
abbrev pub TakesRead : {V : Type 0} → (List Field → Option V) → Result (List Field) ShapeFault → Result V ShapeFault → Type 0
TakesRead taken read (Ok v) = (fs : List Field) × (read ≡ Ok fs) × (taken fs ≡ Some v)
TakesRead taken read (Err faults.OutOfMemory) = Unit {0}
TakesRead taken read (Err (faults.Head f)) = read ≡ Err (faults.Head f)
TakesRead taken read (Err (faults.NoRow n)) = read ≡ Err (faults.NoRow n)
TakesRead taken read (Err (faults.Field i f)) = read ≡ Err (faults.Field i f)
