-- How far an act has come along its first path: so many names were walked, and what was read on the way is behind.
use Rattle.std.specs.Prelude.{◌≡◌, ◌≤◌, ℕ, ◌+◌, ◌-◌, true, List, [], ◌∷◌, ◌++◌, Option, Some, None, Ok, length, take}
use Rattle.std.specs.List.{slice_get}
use Rattle.spec_history.specs.declared.acts.Act.{Act}
use Rattle.spec_history.specs.declared.acts.Operand.{Operand}
use Rattle.spec_history.specs.declared.acts.Operand.TheVariants as operands
use Rattle.spec_history.specs.declared.acts.Path.{Path}
use Rattle.afs_num.specs.declared.types.Fid.{Fid}
use Rattle.spec_rows.specs.Going.{ReadShown, operands_of, root_of}
use Rattle.afs_acts.specs.Walks.{along, walk_to}

-- what an act names first
abbrev pub first_operand : Act → Option Operand
first_operand a = (operands_of a).0

abbrev pub path_in : Operand → Option Path
path_in (operands.Path p) = Some p
path_in (operands.Fid f) = None

abbrev pub path_of : Option Operand → Option Path
path_of None = None
path_of (Some o) = path_in o

abbrev pub names_in : Option Path → List (List ℕ)
names_in None = []
names_in (Some p) = p.names

-- the names along which the act walks first
abbrev pub names_of : Option Operand → List (List ℕ)
names_of o = names_in (path_of o)

-- where it begins, in the volume of this number
abbrev pub start_in : ℕ → Operand → Fid
start_in id (operands.Path p) = root_of id
start_in id (operands.Fid f) = f

abbrev pub start_of : ℕ → Option Operand → Fid
start_of id None = root_of id
start_of id (Some o) = start_in id o

-- So many names were walked, up to this fid, and the walk took these reads: whatever is read behind them, it comes so far. The last
-- name isn't among them. Where the volume isn't known no name was walked.
pub record IsUnderway (home : Option ℕ) (o : Option Operand) (count : ℕ) (fid : Fid) (behind : List ReadShown) : Type 0 where
  pub inside : count ≤ length (names_of o) - 1
  pub walked : (id : ℕ) → home ≡ Some id → (rest : List ReadShown) → walk_to true (take count (names_of o)) (record { fid = start_of id o; rest = behind ++ rest }) ≡ Ok (record { fid = fid; rest = rest })
  pub still : home ≡ None → (count ≡ 0) × (behind ≡ [])

-- this read takes a walk that has come so far along the names, and has no other read ahead, one name on to this fid
pub record Steps (names : List (List ℕ)) (count : ℕ) (fid : Fid) (ahead : List ReadShown) (shown : ReadShown) (next : Fid) : Type 0 where
  pub alone : ahead ≡ []
  pub name : List ℕ
  pub named : slice_get names count ≡ Some name
  pub inside : count + 2 ≤ length names
  pub goes : (rest : List ReadShown) → along true name (record { fid = fid; rest = shown ∷ rest }) ≡ Ok (record { fid = next; rest = rest })
