-- What a call that reads a form gives, in terms of the bytes that were left.
use Rattle.std.specs.Prelude.{◌≡◌, ℕ, List, Option, Some, None, Result, Ok, Err}
use Rattle.afs_xdr.specs.Reading.{Reading}
use Rattle.spec_records.specs.Records.{made_at_end}
use Rattle.afs_record.specs.declared.faults.RecordFault.{RecordFault}
use Rattle.afs_record.specs.declared.faults.RecordFault.TheVariants as faults

-- the result, seen by view, is what this reading gives, and what it leaves is left, unless memory ran out
abbrev pub ReadsForm : {X Y : Type 0} → (List ℕ → Option (Y × List ℕ)) → (X → Y) → Reading → Reading → Result X RecordFault → Type 0
ReadsForm at view old new (Ok x) = at old.left ≡ Some (view x, new.left)
ReadsForm at view old new (Err faults.NoForm) = at old.left ≡ None
ReadsForm at view old new (Err faults.OutOfMemory) = Unit {0}

-- the result is what was read, unless memory ran out
abbrev pub GivesForm : {X : Type 0} → Option X → Result X RecordFault → Type 0
GivesForm read (Ok x) = read ≡ Some x
GivesForm read (Err faults.NoForm) = read ≡ None
GivesForm read (Err faults.OutOfMemory) = Unit {0}

-- the result is what is made where nothing is left behind it, unless memory ran out
abbrev pub MakesAtEnd : {X : Type 0} → Option X → Reading → Result X RecordFault → Type 0
MakesAtEnd made new (Ok x) = made ≡ made_at_end x new.left
MakesAtEnd made new (Err faults.NoForm) = made ≡ None
MakesAtEnd made new (Err faults.OutOfMemory) = Unit {0}
