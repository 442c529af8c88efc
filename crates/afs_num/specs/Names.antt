-- Names of files and of volumes, as their bytes.
use Rattle.std.specs.Prelude.{ℕ, Bool, List, ◌&&◌, ◌||◌, not, nat_eq, nat_le, nat_lt, length, codes}
use Rattle.std.specs.List.{list_all, ends_with}
use Rattle.std.specs.Str.{bytes_eq}

abbrev pub is_in : ℕ → ℕ → ℕ → Bool
is_in low high b = nat_le low b && nat_le b high

-- a letter, a digit, `.`, `_` or `-`
abbrev pub is_plain : ℕ → Bool
is_plain b = is_in 65 90 b || (is_in 97 122 b || (is_in 48 57 b || (nat_eq b 46 || (nat_eq b 95 || nat_eq b 45))))

abbrev pub has_size : ℕ → List ℕ → Bool
has_size most name = nat_lt 0 (length name) && nat_le (length name) most

-- 1 to `most` plain bytes
unfoldable pub is_name_of : ℕ → List ℕ → Bool
is_name_of most name = has_size most name && list_all is_plain name

-- neither `/` nor NUL
abbrev pub is_name_byte : ℕ → Bool
is_name_byte b = not (nat_eq b 47) && not (nat_eq b 0)

abbrev pub is_dots : List ℕ → Bool
is_dots name = bytes_eq name (codes ".") || bytes_eq name (codes "..")

-- 1 to 255 bytes with no `/` and no NUL, neither `.` nor `..`
unfoldable pub name_ok : List ℕ → Bool
name_ok name = has_size 255 name && list_all is_name_byte name && not (is_dots name)

-- the ends that the cell gives to the names of copies
abbrev pub is_copy_name : List ℕ → Bool
is_copy_name name = ends_with nat_eq name (codes ".readonly") || ends_with nat_eq name (codes ".backup")

-- 1 to 22 plain bytes, not all of them digits, and no end of a copy's name
unfoldable pub volume_name_ok : List ℕ → Bool
volume_name_ok name = is_name_of 22 name && not (list_all (is_in 48 57) name) && not (is_copy_name name)
