-- What the calls on a directory answer.
use Rattle.std.specs.Prelude.{◌≡◌, ℕ, List, Option, Some, None, Result, Ok, Err, pos}
use Rattle.std.specs.Option.{option_map}
use Rattle.afs_num.specs.declared.directories.Name.{Name}
use Rattle.afs_dir.specs.declared.faults.DirFault.{DirFault}
use Rattle.afs_dir.specs.declared.faults.DirFault.TheVariants as faults

-- the vnode that a name names, by its number and its unique number
abbrev pub vnode_named : Name → ℕ × ℕ
vnode_named n = (n.vnode, n.unique)

-- what a call gives that is refused with this code; memory is wanted only where it isn't refused
abbrev pub Answers : {A : Type 0} → Option ℕ → Result A DirFault → Type 0
Answers refused (Ok x) = refused ≡ None
Answers refused (Err (faults.Code code)) = option_map pos refused ≡ Some code.0
Answers refused (Err (faults.BadDir offset)) = ⊥
Answers refused (Err faults.OutOfMemory) = refused ≡ None

-- what removing answers, by what was found: 2 where nothing was
abbrev pub removal : Option Name → Result (ℕ × ℕ) DirFault
removal None = Err (faults.Code (record { 0 = pos 2 }))
removal (Some n) = Ok (vnode_named n)

-- the directory that is read, or the offset of the first bad field
abbrev pub Reads : Result (List Name) ℕ → Result (List Name) DirFault → Type 0
Reads read (Ok names) = read ≡ Ok names
Reads read (Err (faults.Code code)) = ⊥
Reads read (Err (faults.BadDir offset)) = read ≡ Err offset
Reads read (Err faults.OutOfMemory) = Unit {0}
