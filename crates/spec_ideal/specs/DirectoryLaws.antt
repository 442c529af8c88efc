-- Laws about directories.
use Rattle.afs_xdr.specs.Words.{IsBytes}
use Rattle.std.specs.Prelude.{◌≡◌, ◌⊎◌, ℕ, true, false, List, Some, None, Ok, if◌then◌else◌}
use Rattle.std.specs.Str.{bytes_eq}
use Rattle.afs_num.specs.declared.directories.Name.{Name}
use Rattle.spec_ideal.specs.Directories.{bytes_below, IsDirectory, named, with_name, without_name, add_refused, FitNames, directory_bytes, directory_of}

-- byte order is a strict total order
pub record ByteOrderIsStrict : Type 0 where
  pub itself : (a : List ℕ) → bytes_below a a ≡ false
  pub trans : (a b c : List ℕ) → bytes_below a b ≡ true → bytes_below b c ≡ true → bytes_below a c ≡ true
  pub total : (a b : List ℕ) → (bytes_below a b ≡ true) ⊎ (a ≡ b) ⊎ (bytes_below b a ≡ true)

-- a name that is added stands in a directory, is found, and hides no other
pub record AddedAreFound : Type 0 where
  pub directory : (n : Name) (names : List Name) → IsDirectory names → add_refused n.name names ≡ None → IsDirectory (with_name n names)
  pub found : (n : Name) (name : List ℕ) (names : List Name) → named name (with_name n names) ≡ (if bytes_eq n.name name then Some n else named name names)

-- a name that is removed is gone, and no other is
pub record RemovedAreGone : Type 0 where
  pub directory : (name : List ℕ) (names : List Name) → IsDirectory names → IsDirectory (without_name name names)
  pub found : (gone name : List ℕ) (names : List Name) → named name (without_name gone names) ≡ (if bytes_eq gone name then None else named name names)

-- the bytes of a directory are read as it
abbrev pub DirectoriesAreReadAgain : Type 0
DirectoriesAreReadAgain = (names : List Name) → IsDirectory names → FitNames names → directory_of (directory_bytes names) ≡ Ok names

-- what is read is a directory, and the bytes are its one spelling
abbrev pub ReadDirectoriesAreSpelled : Type 0
ReadDirectoriesAreSpelled = (bytes : List ℕ) (names : List Name) → IsBytes bytes → directory_of bytes ≡ Ok names → IsDirectory names × FitNames names × (directory_bytes names ≡ bytes)
