-- How many entries the records of a disk make.
use Rattle.std.specs.Prelude.{◌≤◌, ℕ, List, length}
use Rattle.spec_records.specs.LocDurable.{LocDurable, LocStandFor}

-- There are no more entries than the journal has bytes.
abbrev pub EntriesAreFew : Type 0
EntriesAreFew = (records : List (List ℕ)) (d : LocDurable) → LocStandFor records d → length d.entries ≤ d.journal
