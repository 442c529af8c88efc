-- What a call that reads an image gives, in terms of the bytes that were left.
use Rattle.std.specs.Prelude.{◌≡◌, ◌+◌, ℕ, List, Result, Ok, Err}
use Rattle.afs_xdr.specs.Reading.{Reading}
use Rattle.spec_shape.specs.Reading.{◌>>=◌}
use Rattle.spec_ideal.specs.VnodeImage.{word_field, BadField}
use Rattle.afs_vnode.specs.declared.faults.ImageFault.{ImageFault}
use Rattle.afs_vnode.specs.declared.faults.ImageFault.TheVariants as faults

-- the result, seen by view, is what this reading gives, and what it leaves is left, unless memory ran out
abbrev pub ReadsImage : {X Y : Type 0} → (List ℕ → Result (Y × List ℕ) BadField) → (X → Y) → Reading → Reading → Result X ImageFault → Type 0
ReadsImage read view old new (Ok x) = read old.left ≡ Ok (view x, new.left)
ReadsImage read view old new (Err (faults.Field place fault)) = read old.left ≡ Err (record { place = place; fault = fault })
ReadsImage read view old new (Err faults.OutOfMemory) = Unit {0}

-- three words, the first of which is the field of this place
abbrev pub three_fields : ℕ → List ℕ → Result ((ℕ × ℕ × ℕ) × List ℕ) BadField
three_fields place bytes = do
  first ← word_field place bytes
  second ← word_field (place + 1) first.1
  third ← word_field (place + 2) second.1
  Ok ((first.0, second.0, third.0), third.1)
