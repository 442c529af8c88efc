-- A directory with one name more or less has a spelling, and is read from it.
use Rattle.std.proofs.Common.{◌≡◌, ◌≤◌, ◌<◌, ℕ, Bool, true, false, not, zero, suc, List, [], ◌∷◌, length, Option, Some, None, Ok, is_some, if◌then◌else◌, nat_lt, refl, sym, ◌∙◌, arith, slice_get}
use Rattle.afs_num.specs.Names.{name_ok}
use Rattle.afs_num.specs.declared.directories.Name.{Name}
use Rattle.spec_ideal.specs.Directories.{add_refused, bytes_below, directory_bytes, directory_of, is_named, most_names, named, with_name, without_name, FitNames, FitsName}
use Rattle.spec_ideal.proofs.Directories.{added_is_directory, good_is_short, removed_is_directory}
use Rattle.spec_ideal.proofs.DirectoryBytes.{read_is_spelled, spelled_is_read}
use Rattle.spec_shape.proofs.Codecs.{IsBytes}
use Rattle.afs_dir.specs.Places.{IsFound}

fits_by : (n m : Name) (ms : List Name) (t : Bool) → FitsName n → FitsName m → FitNames ms → FitNames (with_name n ms) → FitNames (if t then m ∷ with_name n ms else n ∷ m ∷ ms)
fits_by n m ms true one first rest more = (first, more)
fits_by n m ms false one first rest more = (one, (first, rest))

fits_with : (n : Name) (names : List Name) → FitsName n → FitNames names → FitNames (with_name n names)
fits_with n [] one all = (one, tt)
fits_with n (m ∷ ms) one all = fits_by n m ms (bytes_below m.name n.name) one all.0 all.1 (fits_with n ms one all.1)

left_by : (m : Name) (ms : List Name) (t : Bool) → FitsName m → FitNames ms → FitNames (if not t then m ∷ ms else ms)
left_by m ms true first rest = rest
left_by m ms false first rest = (first, rest)

fits_without : (name : List ℕ) (names : List Name) → FitNames names → FitNames (without_name name names)
fits_without name [] all = tt
fits_without name (m ∷ ms) all = left_by m (without_name name ms) (is_named name m) all.0 (fits_without name ms all.1)

-- ---- what a name has that may be added

pub record MayStand (name : List ℕ) (names : List Name) : Type 0 where
  pub good : name_ok name ≡ true
  pub absent : named name names ≡ None

may_by : (name : List ℕ) (names : List Name) (good : Bool) (o : Option Name) → name_ok name ≡ good → named name names ≡ o
    → ◌≡◌ {A = Option ℕ} (if not good then Some 22 else (if is_some o then Some 17 else (if nat_lt (length names) most_names then None else Some 27))) None → MayStand name names
may_by name names true None good absent e = record { good = good; absent = absent }
may_by name names true (Some n) good absent e = absurd cc
may_by name names false o good absent e = absurd cc

pub may_stand : (name : List ℕ) (names : List Name) → add_refused name names ≡ None → MayStand name names
may_stand name names e = may_by name names (name_ok name) (named name names) refl refl e

pub stands_short : (name : List ℕ) (names : List Name) → add_refused name names ≡ None → length name ≤ 255
stands_short name names e = good_is_short name (may_stand name names e).good

there : (names : List Name) (i : ℕ) → i < length names → slice_get names i ≡ None → ⊥
there [] i lt e = absurd (omega (arith, lt))
there (n ∷ ns) zero lt e = absurd cc
there (n ∷ ns) (suc i) lt e = there ns i (omega (arith, lt)) e

pub not_found : (name : List ℕ) (names : List Name) (i : ℕ) → IsFound name names i → add_refused name names ≡ None → ⊥
not_found name names i found e = there names i found.within (sym found.is ∙ (may_stand name names e).absent)

-- ---- what is read of them

pub read_with : (bytes : List ℕ) (names : List Name) (n : Name) → IsBytes bytes → directory_of bytes ≡ Ok names → FitsName n → add_refused n.name names ≡ None → directory_of (directory_bytes (with_name n names)) ≡ Ok (with_name n names)
read_with bytes names n are read fits e =
    let was = read_is_spelled bytes names are read in
    spelled_is_read (with_name n names) (added_is_directory n names was.0 e) (fits_with n names fits was.1)

pub read_without : (bytes : List ℕ) (names : List Name) (name : List ℕ) → IsBytes bytes → directory_of bytes ≡ Ok names → directory_of (directory_bytes (without_name name names)) ≡ Ok (without_name name names)
read_without bytes names name are read =
    let was = read_is_spelled bytes names are read in
    spelled_is_read (without_name name names) (removed_is_directory name names was.0) (fits_without name names was.1)
