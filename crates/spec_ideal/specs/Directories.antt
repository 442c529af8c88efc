-- Directories: names, each with the vnode that it names, in byte order; how a directory is spelled, and read.
-- Where something is read from bytes, `.0` is what was read, and `.1` are the bytes behind it; a refusal has the bytes
-- from the first bad field on.
use Rattle.std.specs.Prelude.{◌≡◌, ◌≤◌, ◌<◌, ◌^◌, ℕ, zero, suc, ◌-◌, Bool, true, not, ◌&&◌, ◌==◌, if◌then◌else◌, List, [], ◌∷◌, ◌++◌, length, find, filter, Option, Some, None, is_some, Result, Ok, Err, nat_lt}
use Rattle.std.specs.List.{flat_map, AllByRecursion}
use Rattle.std.specs.Str.{bytes_eq}
use Rattle.std.specs.Ordering.{nat_cmp, is_lt}
use Rattle.std.specs.Cmp.Lexicographic.{slice_cmp}
use Rattle.afs_num.specs.Names.{name_ok}
use Rattle.afs_num.specs.declared.directories.Name.{Name}
use Rattle.afs_xdr.specs.declared.faults.XdrFault.{XdrFault}
use Rattle.afs_xdr.specs.Words.{word, words, opaque, word_at, opaque_at}
use Rattle.spec_shape.specs.Reading.{◌>>=◌}

-- ---- order

-- byte order: the first byte that differs decides, and where none does the shorter is below the longer
unfoldable pub bytes_below : List ℕ → List ℕ → Bool
bytes_below a b = is_lt (slice_cmp nat_cmp a b)

-- a name that may stand behind the name `last`: a directory may have it, and `last` is below it
abbrev pub may_follow : List ℕ → List ℕ → Bool
may_follow last name = name_ok name && bytes_below last name

-- names that may stand behind the name `last`, one behind the other
abbrev pub follow : List ℕ → List Name → Bool
follow last [] = true
follow last (n ∷ ns) = may_follow last n.name && follow n.name ns

abbrev pub most_names : ℕ
most_names = 1024

-- These are the names of a directory: good ones, in byte order, each once, and not too many. No name is empty, so the
-- first may stand behind the empty one.
pub record IsDirectory (names : List Name) : Type 0 where
  pub ordered : follow [] names ≡ true
  pub few : length names ≤ most_names

-- ---- names that are found, added and removed

abbrev pub is_named : List ℕ → Name → Bool
is_named name n = bytes_eq n.name name

abbrev pub named : List ℕ → List Name → Option Name
named name names = find (is_named name) names

-- with one more name, in its place
abbrev pub with_name : Name → List Name → List Name
with_name n [] = n ∷ []
with_name n (m ∷ ms) = if bytes_below m.name n.name then m ∷ with_name n ms else n ∷ m ∷ ms

abbrev pub without_name : List ℕ → List Name → List Name
without_name name names = filter (λ (n : Name). not (is_named name n)) names

-- the code with which one more name is refused: no directory may have it, it is there, or there are too many
abbrev pub add_refused : List ℕ → List Name → Option ℕ
add_refused name names =
    if not (name_ok name) then Some 22
    else (if is_some (named name names) then Some 17 else (if nat_lt (length names) most_names then None else Some 27))

-- ---- spelling

unfoldable pub name_bytes : Name → List ℕ
name_bytes n = opaque n.name ++ words (n.vnode ∷ n.unique ∷ [])

-- a count, and the names
unfoldable pub directory_bytes : List Name → List ℕ
directory_bytes names = word (length names) ++ flat_map name_bytes names

-- the vnode and the unique number have a spelling
abbrev pub FitsName : Name → Type 0
FitsName n = (n.vnode < 2 ^ 32) × (n.unique < 2 ^ 32)

abbrev pub FitNames : List Name → Type 0
FitNames names = AllByRecursion FitsName names

-- ---- reading

-- the field that stands where these bytes are left
abbrev pub field : {A : Type 0} → List ℕ → Result A XdrFault → Result A (List ℕ)
field left (Ok x) = Ok x
field left (Err e) = Err left

-- what was read is good, or its field is a bad one
abbrev pub if_good : {A : Type 0} → Bool → List ℕ → A → Result A (List ℕ)
if_good b left x = if b then Ok x else Err left

unfoldable pub count_at : List ℕ → Result (ℕ × List ℕ) (List ℕ)
count_at bytes = do
  count ← field bytes (word_at bytes)
  if_good (not (nat_lt most_names count.0)) bytes count

-- a name that may stand behind `last`
unfoldable pub spelled_at : List ℕ → List ℕ → Result (List ℕ × List ℕ) (List ℕ)
spelled_at last bytes = do
  name ← field bytes (opaque_at 255 bytes)
  if_good (may_follow last name.0) bytes name

-- such a name, and the vnode that it names
unfoldable pub name_at : List ℕ → List ℕ → Result (Name × List ℕ) (List ℕ)
name_at last bytes = do
  name ← spelled_at last bytes
  vnode ← field name.1 (word_at name.1)
  unique ← field vnode.1 (word_at vnode.1)
  Ok (record { name = name.0; vnode = vnode.0; unique = unique.0 }, unique.1)

-- so many names
unfoldable pub names_at : ℕ → List ℕ → List ℕ → Result (List Name × List ℕ) (List ℕ)
names_at zero last bytes = Ok ([], bytes)
names_at (suc n) last bytes = do
  first ← name_at last bytes
  others ← names_at n first.0.name first.1
  Ok (first.0 ∷ others.0, others.1)

-- a directory, and nothing behind it
unfoldable pub whole_at : List ℕ → Result (List Name) (List ℕ)
whole_at bytes = do
  count ← count_at bytes
  names ← names_at count.0 [] count.1
  if_good (length names.1 == 0) names.1 names.0

-- the offset of the first bad field
abbrev pub at_offset : {A : Type 0} → ℕ → Result A (List ℕ) → Result A ℕ
at_offset size (Ok x) = Ok x
at_offset size (Err left) = Err (size - length left)

-- the names of the directory that bytes spell, or the offset of the first field that is none of a directory
unfoldable pub directory_of : List ℕ → Result (List Name) ℕ
directory_of bytes = at_offset (length bytes) (whole_at bytes)
