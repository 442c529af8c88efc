-- What passes between the program and the outside. What a source has left and what a sink holds are known only where
-- these tell them; of the others nothing is said.
use Rattle.std.specs.Prelude.{◌≡◌, ℕ, ◌+◌, ◌-◌, ◌^◌, ◌<◌, ◌≤◌, min, List, ◌++◌, length, take, Option, Some, None, Result, Ok, Err, IfSome, OnOk, OnErr}
use Rattle.std.specs.Io.KnownBytes.{Appends, Consumes, IsAtEnd}
use Rattle.afs_outside.specs.declared.outside.Failed.{Failed}
use Rattle.afs_outside.specs.declared.outside.ReadError.{ReadError}
use Rattle.afs_outside.specs.declared.outside.ReadError.TheVariants.{TooLong, OutOfMemory, Failed as ReadFailed}

-- the count of faults rose; one that stands at the end of its type counts as risen
abbrev pub Rose : ℕ → ℕ → Type 0
Rose old new = min (old + 1) (2 ^ 64 - 1) ≤ new

-- the count doesn't fall, a call fails only where it rose in that call, and it rises only where the call fails
pub record HasCause {T : Type 0} (old new : ℕ) (result : Result T Failed) : Type 0 where
  pub kept : old ≤ new
  pub cause : OnErr result (Rose old new)
  pub quiet : OnOk result (new ≡ old)

-- ---- a source

-- these are all the bytes that the source had left
abbrev pub HadAll : Option (List ℕ) → List ℕ → Type 0
HadAll None bytes = Unit {0}
HadAll (Some left) bytes = left ≡ bytes

-- more bytes than the limit were taken, by one, and the source goes on behind them
pub record TakesTooMuch (limit : ℕ) (old new : Option (List ℕ)) (bytes : List ℕ) : Type 0 where
  pub size : length bytes ≡ limit + 1
  pub consumed : Consumes old new bytes
  pub longer : IfSome old (λ left. limit < length left)

-- what is said of bytes that are too many
abbrev pub IfTooLong : {T : Type 0} → Result T ReadError → (List ℕ → Type 0) → Type 0
IfTooLong (Err (TooLong bytes)) P = P bytes
IfTooLong (Err ReadFailed) P = Unit {0}
IfTooLong (Err OutOfMemory) P = Unit {0}
IfTooLong (Ok x) P = Unit {0}

-- this is so wherever the source didn't fail
abbrev pub UnlessFailed : {T : Type 0} → Result T ReadError → Type 0 → Type 0
UnlessFailed (Err ReadFailed) P = Unit {0}
UnlessFailed (Err (TooLong bytes)) P = P
UnlessFailed (Err OutOfMemory) P = P
UnlessFailed (Ok x) P = P

-- at most so many bytes were taken from the source
pub record TakesAtMost (most : ℕ) (old new : Option (List ℕ)) : Type 0 where
  pub taken : List ℕ
  pub few : length taken ≤ most
  pub consumed : Consumes old new taken

-- a piece of n bytes was taken from the source, and stands behind what had been taken before; 0 is the end
pub record TakesPiece (most n : ℕ) (old new : Option (List ℕ)) (before after : List ℕ) : Type 0 where
  pub piece : List ℕ
  pub size : length piece ≡ n
  pub few : n ≤ most
  pub grown : after ≡ before ++ piece
  pub consumed : Consumes old new piece
  pub end : n ≡ 0 → IsAtEnd new

-- the source told what it had left, and this holds of it
abbrev pub Gives : (List ℕ → Type 0) → Option (List ℕ) → Type 0
Gives P None = ⊥
Gives P (Some left) = P left

-- ---- a sink

-- a beginning of these bytes was appended
abbrev pub AppendsFront : Option (List ℕ) → Option (List ℕ) → List ℕ → Type 0
AppendsFront old new bytes = (n : ℕ) × Appends old new (take n bytes)

-- the bytes were appended, or where a call failed, a beginning of them; and a failure has a cause
pub record Puts {T : Type 0} (bytes : List ℕ) (old new : Option (List ℕ)) (before after : ℕ) (result : Result T Failed) : Type 0 where
  pub whole : OnOk result (Appends old new bytes)
  pub front : OnErr result (AppendsFront old new bytes)
  pub cause : HasCause before after result

-- such bytes were appended, or where a call failed, a beginning of them; and a failure has a cause
abbrev pub PutsSome : {T : Type 0} → (List ℕ → Type 0) → Option (List ℕ) → Option (List ℕ) → ℕ → ℕ → Result T Failed → Type 0
PutsSome IsText old new before after result = (text : List ℕ) × IsText text × Puts text old new before after result

-- such bytes were appended
abbrev pub PrintsSome : (List ℕ → Type 0) → Option (List ℕ) → Option (List ℕ) → Type 0
PrintsSome IsText old new = (text : List ℕ) × IsText text × Appends old new text

-- of such bytes a beginning was appended
abbrev pub PrintsSomeFront : (List ℕ → Type 0) → Option (List ℕ) → Option (List ℕ) → Type 0
PrintsSomeFront IsText old new = (text : List ℕ) × IsText text × AppendsFront old new text

-- ---- from a source to a sink

-- where the source told what it had, a text that belongs to it was appended to the sink
abbrev pub Prints : (List ℕ → List ℕ → Type 0) → Option (List ℕ) → Option (List ℕ) → Option (List ℕ) → Type 0
Prints IsTextOf None old new = Unit {0}
Prints IsTextOf (Some input) old new = PrintsSome (IsTextOf input) old new

-- of such a text a beginning was appended
abbrev pub PrintsFront : (List ℕ → List ℕ → Type 0) → Option (List ℕ) → Option (List ℕ) → Option (List ℕ) → Type 0
PrintsFront IsTextOf None old new = Unit {0}
PrintsFront IsTextOf (Some input) old new = PrintsSomeFront (IsTextOf input) old new
