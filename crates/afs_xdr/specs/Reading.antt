-- What a reader's call gives, in terms of the bytes that were left.
use Rattle.std.specs.Prelude.{◌≡◌, ℕ, ◌+◌, List, length, Result, Ok, Err}
use Rattle.afs_xdr.specs.declared.faults.XdrFault.{XdrFault}

-- a reader: how many bytes were read, and those that are left
pub record Reading : Type 0 where
  pub at : ℕ
  pub left : List ℕ

-- the result is that of this reading of the bytes left, and what it leaves is left; after a refusal nothing is said
-- of the reader
abbrev pub Reads : {X Y : Type 0} → (List ℕ → Result (Y × List ℕ) XdrFault) → (X → Y) → Reading → Reading → Result X XdrFault → Type 0
Reads read view old new (Ok x) = read old.left ≡ Ok (view x, new.left)
Reads read view old new (Err e) = read old.left ≡ Err e

-- the result is that of this reading
abbrev pub Gives : {X Y : Type 0} → (X → Y) → Result Y XdrFault → Result X XdrFault → Type 0
Gives view read (Ok x) = read ≡ Ok (view x)
Gives view read (Err e) = read ≡ Err e

-- the count of bytes read rises by what was taken
abbrev pub KeepsEnd : Reading → Reading → Type 0
KeepsEnd old new = old.at + length old.left ≡ new.at + length new.left
