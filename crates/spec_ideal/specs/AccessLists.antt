-- Access lists: their text, its reading from left to right, and the rights that they give.
use Rattle.std.specs.Prelude.{◌≡◌, ◌≤◌, ℕ, zero, suc, ◌+◌, ◌-◌, ◌*◌, List, [], ◌∷◌, ◌++◌, length, take, drop, Bool, true, false, not, ◌&&◌, ◌||◌, Result, Ok, Err, nat_eq, nat_le, nat_lt, bit_and, bit_or, codes, if◌then◌else◌}
use Rattle.std.specs.List.{flat_map, list_all, list_any, prefix_len}
use Rattle.std.specs.Fmt.{decimal}
use Rattle.std.specs.Str.{bytes_eq}
use Rattle.afs_num.specs.Names.{is_in, has_size}
use Rattle.afs_num.specs.declared.acls.AclEntry.{AclEntry}
use Rattle.afs_num.specs.declared.acls.AccessList.{AccessList}
use Rattle.spec_shape.specs.Reading.{◌>>=◌}

-- ---- the text: how many entries there are of each kind, then the entries, those that give rights first

abbrev pub tab : ℕ
tab = 9

abbrev pub newline : ℕ
newline = 10

-- a number alone on its line
abbrev pub number_line : ℕ → List ℕ
number_line n = decimal n ++ newline ∷ []

unfoldable pub acl_entry_text : AclEntry → List ℕ
acl_entry_text e = e.name ++ (tab ∷ number_line e.rights)

unfoldable pub acl_text : AccessList → List ℕ
acl_text a =
    number_line (length a.positive) ++ (number_line (length a.negative) ++ (flat_map acl_entry_text a.positive ++ flat_map acl_entry_text a.negative))

-- ---- which lists have a text

abbrev pub is_acl_byte : ℕ → Bool
is_acl_byte b = not (nat_eq b tab) && not (nat_eq b newline)

-- 1 to 64 bytes without tab and newline
abbrev pub is_acl_name : List ℕ → Bool
is_acl_name name = has_size 64 name && list_all is_acl_byte name

-- an entry has the name
abbrev pub has_entry_named : List ℕ → List AclEntry → Bool
has_entry_named name entries = list_any (λ e. bytes_eq e.name name) entries

abbrev pub most_rights : ℕ
most_rights = 127

abbrev pub most_acl_entries : ℕ
most_acl_entries = 20

-- an entry behind the others
pub record IsEntry (others : List AclEntry) (e : AclEntry) : Type 0 where
  pub name : is_acl_name e.name ≡ true
  pub single : has_entry_named e.name others ≡ false
  pub rights : e.rights ≤ most_rights

-- entries behind the others: no name stands twice
abbrev pub AreEntries : List AclEntry → List AclEntry → Type 0
AreEntries others [] = Unit {0}
AreEntries others (e ∷ es) = IsEntry others e × AreEntries (others ++ e ∷ []) es

pub record IsAccessList (a : AccessList) : Type 0 where
  pub few : length a.positive + length a.negative ≤ most_acl_entries
  pub positive : AreEntries [] a.positive
  pub negative : AreEntries [] a.negative

-- a list that says nothing; what is no directory has it
abbrev pub no_acl : AccessList
no_acl = record { positive = []; negative = [] }

-- ---- reading a text

-- why a text is no access list: the bytes from the first on that can't stand there, or the sum of its counts
pub data Refusal : Type 0 where
  bad_from : List ℕ → Refusal
  too_many : ℕ → Refusal

-- the digit stands behind n, which then stays at most `most`; nothing stands behind a leading zero
abbrev pub digit_fits : ℕ → ℕ → ℕ → Bool
digit_fits most n b = not (nat_eq n 0) && (is_in 48 57 b && nat_le (n * 10 + (b - 48)) most)

-- n with the digits behind it, up to a newline
abbrev pub digits_at : ℕ → ℕ → List ℕ → Result (ℕ × List ℕ) Refusal
digits_at most n [] = Err (bad_from [])
digits_at most n (b ∷ bs) =
    if nat_eq b newline then Ok (n, bs)
    else (if digit_fits most n b then digits_at most (n * 10 + (b - 48)) bs else Err (bad_from (b ∷ bs)))

-- a number of at most `most`, at least 9, in decimal without leading zeros, and a newline
unfoldable pub line_number_at : ℕ → List ℕ → Result (ℕ × List ℕ) Refusal
line_number_at most [] = Err (bad_from [])
line_number_at most (b ∷ bs) = if is_in 48 57 b then digits_at most (b - 48) bs else Err (bad_from (b ∷ bs))

-- counts are words
unfoldable pub count_at : List ℕ → Result (ℕ × List ℕ) Refusal
count_at bytes = line_number_at 4294967295 bytes

-- n, or `most` where n is more
abbrev pub at_most : ℕ → ℕ → ℕ
at_most most n = if nat_lt n most then n else most

-- how many bytes may be a name's
abbrev pub name_length : List ℕ → ℕ
name_length bytes = at_most 64 (prefix_len is_acl_byte bytes)

-- a new name, and then a tab
unfoldable pub named_at : List AclEntry → List ℕ → List ℕ → Result (List ℕ × List ℕ) Refusal
named_at others name [] = Err (bad_from [])
named_at others name (b ∷ bs) =
    if nat_eq b tab && (nat_lt 0 (length name) && not (has_entry_named name others)) then Ok (name, bs) else Err (bad_from (b ∷ bs))

-- a name that none of the others has, and a tab
unfoldable pub name_at : List AclEntry → List ℕ → Result (List ℕ × List ℕ) Refusal
name_at others bytes = named_at others (take (name_length bytes) bytes) (drop (name_length bytes) bytes)

-- an entry behind the others
unfoldable pub acl_entry_at : List AclEntry → List ℕ → Result (AclEntry × List ℕ) Refusal
acl_entry_at others bytes = do
  name ← name_at others bytes
  rights ← line_number_at most_rights name.1
  Ok (record { name = name.0; rights = rights.0 }, rights.1)

-- so many entries behind the others, and the others
abbrev pub entries_at : ℕ → List AclEntry → List ℕ → Result (List AclEntry × List ℕ) Refusal
entries_at zero others bytes = Ok (others, bytes)
entries_at (suc n) others bytes = do
  entry ← acl_entry_at others bytes
  entries_at n (others ++ entry.0 ∷ []) entry.1

abbrev pub must_be_few : ℕ → Result (Unit {0}) Refusal
must_be_few n = if nat_le n most_acl_entries then Ok tt else Err (too_many n)

abbrev pub must_end : List ℕ → Result (Unit {0}) Refusal
must_end [] = Ok tt
must_end (b ∷ bs) = Err (bad_from (b ∷ bs))

-- so many entries of each kind, and nothing behind them
abbrev pub lists_at : ℕ → ℕ → List ℕ → Result AccessList Refusal
lists_at positive negative bytes = do
  granted ← entries_at positive [] bytes
  denied ← entries_at negative [] granted.1
  done ← must_end denied.1
  Ok (record { positive = granted.0; negative = denied.0 })

unfoldable pub acl_at : List ℕ → Result AccessList Refusal
acl_at text = do
  positive ← count_at text
  negative ← count_at positive.1
  few ← must_be_few (positive.0 + negative.0)
  lists_at positive.0 negative.0 negative.1

-- ---- rights

-- an entry that speaks of everyone
abbrev pub anyuser : List ℕ
anyuser = codes "system:anyuser"

abbrev pub matches : List ℕ → AclEntry → Bool
matches user e = bytes_eq e.name user || bytes_eq e.name anyuser

-- the rights of the entries that match, together with those
abbrev pub matching_rights : List ℕ → ℕ → List AclEntry → ℕ
matching_rights user rights [] = rights
matching_rights user rights (e ∷ es) = matching_rights user (if matches user e then bit_or rights e.rights else rights) es

-- those that the others don't have
abbrev pub without_rights : ℕ → ℕ → ℕ
without_rights rights others = bit_and rights (4294967295 - others)

-- what the positive entries give, without what the negative ones take
unfoldable pub rights_of : List ℕ → AccessList → ℕ
rights_of user a = without_rights (matching_rights user 0 a.positive) (matching_rights user 0 a.negative)
