-- The numbers in the entries of the location database: no volume is in two of them.
use Rattle.std.specs.Prelude.{◌≡◌, ℕ, true, Some}
use Rattle.afs_num.specs.declared.location_calls.LocEntry.{LocEntry}
use Rattle.spec_ideal.specs.Tables.{get, AscendsFrom, Table}
use Rattle.spec_records.specs.LocRecords.{Listed}
use Rattle.spec_rows.specs.LocRow.{has_id}

-- no volume is in both: 0 is the number of none
abbrev pub ShareNone : LocEntry → LocEntry → Type 0
ShareNone e f = (id : ℕ) → has_id id e ≡ true → has_id id f ≡ true → ⊥

-- Entries stand by ascending numbers, each under that of its read-write volume.
pub record AreKeyed (entries : Table Listed) : Type 0 where
  pub ascends : AscendsFrom 0 entries
  pub keyed : (k : ℕ) (l : Listed) → get k entries ≡ Some l → l.entry.read_write ≡ k

abbrev pub AreApart : Table Listed → Type 0
AreApart entries = (k j : ℕ) (l m : Listed) → get k entries ≡ Some l → get j entries ≡ Some m → (k ≡ j → ⊥) → ShareNone l.entry m.entry
