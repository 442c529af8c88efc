-- What a function tells of a definition that reads.
use Rattle.std.specs.Prelude.{◌≡◌, ℕ, List, [], ◌∷◌, Option, Some, None, Result, Ok, Err, ◌<◌, ◌≤◌, length}
use Rattle.afs_num.specs.declared.scripts.Reason.{Reason}
use Rattle.afs_words.specs.declared.faults.LineFault.{LineFault}
use Rattle.afs_words.specs.declared.faults.LineFault.TheVariants as faults
use Rattle.afs_words.specs.declared.faults.ScriptFault.{ScriptFault}
use Rattle.afs_words.specs.declared.faults.ScriptFault.TheVariants as ends

-- the definition gives the value, with the words that are left; or that reason
abbrev pub Reads : {A B : Type 0} → (List (List ℕ) → Result (A × List (List ℕ)) Reason) → (B → A) → List (List ℕ) → List (List ℕ) → Result B Reason → Type 0
Reads at view old new (Ok x) = at old ≡ Ok (view x, new)
Reads at view old new (Err reason) = at old ≡ Err reason

-- the same where memory may be wanting
abbrev pub ReadsInMemory : {A B : Type 0} → (List (List ℕ) → Result (A × List (List ℕ)) Reason) → (B → A) → List (List ℕ) → List (List ℕ) → Result B LineFault → Type 0
ReadsInMemory at view old new (Ok x) = at old ≡ Ok (view x, new)
ReadsInMemory at view old new (Err (faults.Bad reason)) = at old ≡ Err reason
ReadsInMemory at view old new (Err faults.OutOfMemory) = Unit {0}

-- the definition gives the value; or that reason
abbrev pub Gives : {A : Type 0} → Result A Reason → Result A LineFault → Type 0
Gives given (Ok x) = given ≡ Ok x
Gives given (Err (faults.Bad reason)) = given ≡ Err reason
Gives given (Err faults.OutOfMemory) = Unit {0}

-- the same with the number of the bad line
abbrev pub GivesAtLine : {A : Type 0} → Result A (ℕ × Reason) → Result A ScriptFault → Type 0
GivesAtLine given (Ok x) = given ≡ Ok x
GivesAtLine given (Err (ends.Line number reason)) = given ≡ Err (number, reason)
GivesAtLine given (Err ends.OutOfMemory) = Unit {0}

-- the first part, and the others
abbrev pub Cuts : List (List ℕ) → List (List ℕ) → Option (List ℕ) → Type 0
Cuts old new None = (old ≡ []) × (new ≡ [])
Cuts old new (Some part) = old ≡ part ∷ new

-- the first part, where others are behind it
abbrev pub CutsClosed : List (List ℕ) → List (List ℕ) → Option (List ℕ) → Type 0
CutsClosed old new None = (new ≡ old) × (length old ≤ 1)
CutsClosed old new (Some part) = (old ≡ part ∷ new) × (0 < length new)

-- the outcome, with the number where it is a reason
abbrev pub IsAtLine : {A : Type 0} → ℕ → Result A LineFault → Result A ScriptFault → Type 0
IsAtLine number (Ok x) read = read ≡ Ok x
IsAtLine number (Err (faults.Bad reason)) read = read ≡ Err (ends.Line number reason)
IsAtLine number (Err faults.OutOfMemory) read = read ≡ Err ends.OutOfMemory
