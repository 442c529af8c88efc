-- Where a name stands among a directory's.
use Rattle.std.specs.Prelude.{◌≡◌, ◌≤◌, ◌<◌, ℕ, suc, List, [], ◌∷◌, length, Bool, false, Option, Some, None, if◌then◌else◌, slice_get}
use Rattle.std.specs.List.{insert, remove}
use Rattle.afs_num.specs.declared.directories.Name.{Name}
use Rattle.spec_ideal.specs.Directories.{bytes_below, is_named, named, with_name, without_name}

-- how many names stand below this one
abbrev pub place_of : List ℕ → List Name → ℕ
place_of name [] = 0
place_of name (n ∷ ns) = if bytes_below n.name name then suc (place_of name ns) else 0

-- whether a place has this name
abbrev pub is_at : List ℕ → Option Name → Bool
is_at name None = false
is_at name (Some n) = is_named name n

-- the name stands at this place
pub record IsFound (name : List ℕ) (names : List Name) (place : ℕ) : Type 0 where
  pub within : place < length names
  pub is : named name names ≡ slice_get names place
  pub removed : remove names place ≡ without_name name names

-- the name isn't there, and would stand at this place
pub record IsGap (name : List ℕ) (names : List Name) (place : ℕ) : Type 0 where
  pub within : place ≤ length names
  pub none : named name names ≡ None
  pub added : (n : Name) → n.name ≡ name → insert names place n ≡ with_name n names
