-- Laws about the records of the location database: bytes and records are one for one, and one record more is folded once more.
use Rattle.std.specs.Prelude.{◌≡◌, ◌+◌, ℕ, List, [], ◌∷◌, ◌++◌, Some}
use Rattle.afs_xdr.specs.Words.{IsBytes}
use Rattle.spec_records.specs.LocDurable.{loc_boot_record, loc_folded, loc_placing, loc_with_journal, LocDurable, LocStandFor}
use Rattle.spec_records.specs.LocRecords.{loc_record_at, loc_record_bytes, FitsLocRecord, LocRecord}

-- a record within the limits is read again from its bytes
abbrev pub LocRecordsAreReadAgain : Type 0
LocRecordsAreReadAgain = (r : LocRecord) → FitsLocRecord r → loc_record_at (loc_record_bytes r) ≡ Some r

-- bytes that are read as a record are its one spelling
abbrev pub ReadLocRecordsAreSpelled : Type 0
ReadLocRecordsAreSpelled = (bytes : List ℕ) (r : LocRecord) → IsBytes bytes → loc_record_at bytes ≡ Some r → FitsLocRecord r × (loc_record_bytes r ≡ bytes)

-- One more record, that can be taken, stands for what the fold makes of it.
abbrev pub OneMoreLocStands : Type 0
OneMoreLocStands = (records : List (List ℕ)) (r : LocRecord) (d e : LocDurable) → LocStandFor records d → FitsLocRecord r → loc_folded r d ≡ Some e → LocStandFor (records ++ loc_record_bytes r ∷ []) e

-- what a start leaves: the next boot number, and all else as it was
abbrev pub loc_started : LocDurable → LocDurable
loc_started d = loc_with_journal (loc_placing d (loc_boot_record (d.boot + 1))).journal (record d { boot = d.boot + 1 })

abbrev pub LocStartsAreKept : Type 0
LocStartsAreKept = (d : LocDurable) → loc_folded (loc_boot_record (d.boot + 1)) d ≡ Some (loc_started d)
