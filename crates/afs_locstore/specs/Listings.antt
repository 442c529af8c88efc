-- The entries in memory: found by their read-write numbers, by any of their three numbers, and by their names.
use Rattle.std.specs.Prelude.{◌≡◌, ◌≤◌, ◌+◌, ◌*◌, ℕ, List, map, Bool, false, Option, Some, None, nat_eq, nat_lt, if◌then◌else◌}
use Rattle.std.specs.List.{AllByRecursion}
use Rattle.std.specs.Option.{option_map}
use Rattle.std.specs.Str.{bytes_eq}
use Rattle.afs_num.specs.declared.location_calls.LocEntry.{LocEntry}
use Rattle.spec_ideal.specs.Directories.{bytes_below}
use Rattle.spec_ideal.specs.Tables.{get, Table, AscendsFrom}
use Rattle.spec_records.specs.LocRecords.{listed_form, Listed}
use Rattle.spec_rows.specs.LocRow.{has_id, is_named}
use Rattle.afs_locstore.specs.Indexed.{holds_pair, with_pair, without_pair}
use Rattle.afs_locstore.specs.declared.placed.Placed.{Placed}

-- memory for so many more of each
pub record Rooms : Type 0 where
  pub entries : ℕ
  pub numbers : ℕ
  pub names : ℕ

pub record Listings : Type 0 where
  pub table : Table Listed
  pub rooms : Rooms

-- an entry has three numbers and one name
pub record HasRoomOf (count : ℕ) (r : Rooms) : Type 0 where
  pub entries : count ≤ r.entries
  pub numbers : 3 * count ≤ r.numbers
  pub names : count ≤ r.names

-- room isn't taken away
pub record KeepsRooms (old new : Rooms) : Type 0 where
  pub entries : old.entries ≤ new.entries
  pub numbers : old.numbers ≤ new.numbers
  pub names : old.names ≤ new.names

-- room for one entry is taken at most
pub record TakesRoomOfOne (old new : Rooms) : Type 0 where
  pub entries : old.entries ≤ new.entries + 1
  pub numbers : old.numbers ≤ new.numbers + 3
  pub names : old.names ≤ new.names + 1

-- ---- the indexes are those of the entries

-- what holds of each number and the entry under it
abbrev pub EachEntry : (ℕ → Listed → Type 0) → Table Listed → Type 0
EachEntry Holds t = (n : ℕ) (l : Listed) → get n t ≡ Some l → Holds n l

-- each entry stands under its read-write number
abbrev pub StandByNumber : Table Listed → Type 0
StandByNumber t = EachEntry (λ n l. l.entry.read_write ≡ n) t

-- there is an entry, and it passes this test
abbrev pub passes : (LocEntry → Bool) → Option Listed → Bool
passes test None = false
passes test (Some l) = test l.entry

-- a pair stands just where the entry of its number has such a number, or such a name
abbrev pub AreNumbers : List (ℕ × ℕ) → Table Listed → Type 0
AreNumbers ps t = (id n : ℕ) → holds_pair nat_eq id n ps ≡ passes (has_id id) (get n t)

abbrev pub AreNames : List (List ℕ × ℕ) → Table Listed → Type 0
AreNames ps t = (name : List ℕ) (n : ℕ) → holds_pair bytes_eq name n ps ≡ passes (is_named name) (get n t)

-- Entries stand in order, each under its number; each has a spelling; and the indexes are theirs.
pub record AreIndexed (t : Table Listed) (by_number : List (ℕ × ℕ)) (by_name : List (List ℕ × ℕ)) : Type 0 where
  pub ordered : AscendsFrom 0 t
  pub keyed : StandByNumber t
  pub fit : EachEntry (λ n l. listed_form.Fits l) t
  pub numbers : AreNumbers by_number t
  pub names : AreNames by_name t

-- the entry of a number, if there is a number
abbrev pub get_under : Option ℕ → Table Listed → Option Listed
get_under None t = None
get_under (Some n) t = get n t

-- ---- entries to be put

abbrev pub are_placed : List Placed → List Listed
are_placed ps = map (λ (p : Placed). p.listed) ps

-- It has a spelling, and the name that is kept beside it is its own.
pub record CanBePut (p : Placed) : Type 0 where
  pub fits : listed_form.Fits p.listed
  pub titled : p.name ≡ p.listed.entry.name

abbrev pub CanBeAllPut : List Placed → Type 0
CanBeAllPut ps = AllByRecursion CanBePut ps

-- an entry that is listed, if one is
abbrev pub entry_of : Option Listed → Option LocEntry
entry_of o = option_map (λ (l : Listed). l.entry) o

-- ---- an entry in the indexes

-- 0 is the number of none
abbrev pub with_number : ℕ → ℕ → List (ℕ × ℕ) → List (ℕ × ℕ)
with_number id n ps = if nat_eq id 0 then ps else with_pair nat_lt nat_eq id n ps

abbrev pub numbers_with : LocEntry → List (ℕ × ℕ) → List (ℕ × ℕ)
numbers_with e ps = with_number e.backup e.read_write (with_number e.read_only e.read_write (with_number e.read_write e.read_write ps))

abbrev pub numbers_without : LocEntry → List (ℕ × ℕ) → List (ℕ × ℕ)
numbers_without e ps = without_pair nat_eq e.backup e.read_write (without_pair nat_eq e.read_only e.read_write (without_pair nat_eq e.read_write e.read_write ps))

abbrev pub names_with : LocEntry → List (List ℕ × ℕ) → List (List ℕ × ℕ)
names_with e ps = with_pair bytes_below bytes_eq e.name e.read_write ps

abbrev pub names_without : LocEntry → List (List ℕ × ℕ) → List (List ℕ × ℕ)
names_without e ps = without_pair bytes_eq e.name e.read_write ps
