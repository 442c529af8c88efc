-- What a reader's call gives, where a field may be a bad one.
use Rattle.std.specs.Prelude.{◌≡◌, ℕ, List, [], ◌∷◌, Result, Ok, Err}
use Rattle.afs_num.specs.declared.directories.Name.{Name}
use Rattle.afs_xdr.specs.Reading.{Reading}
use Rattle.afs_dir.specs.declared.reading.Stop.{Stop}
use Rattle.afs_dir.specs.declared.reading.Stop.TheVariants as stops

-- the result is that of this reading of the bytes left, and what it leaves is left; the reader stays before a bad field
abbrev pub ReadsGood : {X Y : Type 0} → (List ℕ → Result (Y × List ℕ) (List ℕ)) → (X → Y) → Reading → Reading → Result X Stop → Type 0
ReadsGood read view old new (Ok x) = read old.left ≡ Ok (view x, new.left)
ReadsGood read view old new (Err stops.BadField) = read old.left ≡ Err new.left
ReadsGood read view old new (Err stops.OutOfMemory) = Unit {0}

-- the same where nothing is left behind
abbrev pub ReadsWhole : {X Y : Type 0} → (List ℕ → Result Y (List ℕ)) → (X → Y) → Reading → Reading → Result X Stop → Type 0
ReadsWhole read view old new (Ok x) = read old.left ≡ Ok (view x)
ReadsWhole read view old new (Err stops.BadField) = read old.left ≡ Err new.left
ReadsWhole read view old new (Err stops.OutOfMemory) = Unit {0}

-- the last of these names, or this one where there are none
abbrev pub last_name : List ℕ → List Name → List ℕ
last_name name [] = name
last_name name (n ∷ ns) = last_name n.name ns
