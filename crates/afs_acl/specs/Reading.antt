-- What a call that reads an access list gives, in terms of its text.
use Rattle.std.specs.Prelude.{◌≡◌, ℕ, List, ◌++◌, length, Result, Ok, Err}
use Rattle.afs_num.specs.declared.acls.AccessList.{AccessList}
use Rattle.spec_ideal.specs.AccessLists.{Refusal, bad_from, too_many}
use Rattle.afs_acl.specs.declared.stops.Stop.{Stop}
use Rattle.afs_acl.specs.declared.stops.Stop.TheVariants as stops
use Rattle.afs_acl.specs.declared.faults.AclFault.{AclFault}
use Rattle.afs_acl.specs.declared.faults.AclFault.TheVariants as faults

-- the result, seen by view, is what was read, by a call that takes no memory
abbrev pub Reads : {X Y : Type 0} → (X → Y) → Result Y Refusal → Result X Stop → Type 0
Reads view read (Ok x) = read ≡ Ok (view x)
Reads view read (Err (stops.BadFrom bytes)) = read ≡ Err (bad_from bytes.now)
Reads view read (Err (stops.TooMany n)) = read ≡ Err (too_many n)
Reads view read (Err stops.OutOfMemory) = ⊥

-- the result, seen by view, is what was read, unless memory ran out
abbrev pub Gives : {X Y : Type 0} → (X → Y) → Result Y Refusal → Result X Stop → Type 0
Gives view read (Ok x) = read ≡ Ok (view x)
Gives view read (Err (stops.BadFrom bytes)) = read ≡ Err (bad_from bytes.now)
Gives view read (Err (stops.TooMany n)) = read ≡ Err (too_many n)
Gives view read (Err stops.OutOfMemory) = Unit {0}

-- the text is refused for the byte behind so many, or for its end there
pub record IsBadAt (bytes : List ℕ) (at : ℕ) (read : Result AccessList Refusal) : Type 0 where
  pub front : List ℕ
  pub rest : List ℕ
  pub text : bytes ≡ front ++ rest
  pub bad : read ≡ Err (bad_from rest)
  pub offset : at ≡ length front

-- the text is the list's, or it is refused as it was read, unless memory ran out
abbrev pub GivesAcl : List ℕ → Result AccessList Refusal → Result AccessList AclFault → Type 0
GivesAcl text read (Ok a) = read ≡ Ok a
GivesAcl text read (Err (faults.BadAcl offset)) = IsBadAt text offset read
GivesAcl text read (Err (faults.TooMany n)) = read ≡ Err (too_many n)
GivesAcl text read (Err faults.OutOfMemory) = Unit {0}
