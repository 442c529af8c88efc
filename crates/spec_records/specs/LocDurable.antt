-- What the location database keeps on its disk, and how each record of its journal changes it: the fold.
use Rattle.std.specs.Prelude.{◌≡◌, ◌+◌, ◌&&◌, ℕ, List, [], ◌∷◌, length, Bool, true, false, not, Option, Some, None, is_some, nat_lt, if◌then◌else◌}
use Rattle.afs_num.specs.Nodes.{node_number}
use Rattle.afs_num.specs.declared.records.RecordHead.{RecordHead}
use Rattle.afs_num.specs.declared.types.Node.{Node}
use Rattle.spec_history.specs.declared.scripts.VolumeLine.{VolumeLine}
use Rattle.spec_shape.specs.Taking.{◌>>=◌}
use Rattle.spec_ideal.specs.Operations.{last_count}
use Rattle.spec_ideal.specs.Tables.{Table, get, set, unset}
use Rattle.spec_records.specs.Changes.{no_head}
use Rattle.spec_records.specs.Durable.{kept_by, Kept, Placing}
use Rattle.spec_records.specs.Entries.{entry_of_line}
use Rattle.spec_records.specs.LocRecords.{loc_record_at, loc_record_bytes, leaves, removes, sets, Boot, Database, EntryDeed, First, Listed, LocBody, LocRecord}

-- ---- the durable part

-- Entries stand by the numbers of their read-write volumes, kept replies by their callers' numbers. The next volume number and the
-- next stamp are those that will be drawn. The journal's length and the disk's capacity are in bytes.
pub record LocDurable : Type 0 where
  pub boot : ℕ
  pub entries : Table Listed
  pub next_id : ℕ
  pub next_stamp : ℕ
  pub kept : Table Kept
  pub journal : ℕ
  pub capacity : ℕ

-- volumes are numbered from here on
abbrev pub first_id : ℕ
first_id = 536870912

-- and stamps from here
abbrev pub first_stamp : ℕ
first_stamp = 1

-- a new journal is one closed gate
abbrev pub nothing_listed : ℕ → LocDurable
nothing_listed capacity = record { boot = 1; entries = []; next_id = first_id; next_stamp = first_stamp; kept = []; journal = 1; capacity = capacity }

-- ---- room

-- a record's place has its length, its number and the next gate besides
abbrev pub loc_place_length : LocRecord → ℕ
loc_place_length r = length (loc_record_bytes r) + 9

-- its place is written and synced, and then its gate
abbrev pub loc_placing : LocDurable → LocRecord → Placing
loc_placing d r = record { calls = 4; journal = d.journal + loc_place_length r }

abbrev pub loc_has_room : LocDurable → LocRecord → Bool
loc_has_room d r = not (nat_lt d.capacity (loc_placing d r).journal)

-- ---- the fold: what a record changes. None where it can't be taken

abbrev pub entry_set : Listed → Table Listed → Table Listed
entry_set l t = set l.entry.read_write l t

abbrev pub entries_set : List Listed → Table Listed → Table Listed
entries_set [] t = t
entries_set (l ∷ ls) t = entries_set ls (entry_set l t)

-- the entries behind a deed
abbrev pub entries_after : EntryDeed → Table Listed → Table Listed
entries_after (sets l) t = entry_set l t
entries_after (removes e) t = unset e.read_write t
entries_after leaves t = t

-- only an entry that is there can go
abbrev pub can_do : EntryDeed → Table Listed → Bool
can_do (removes e) t = is_some (get e.read_write t)
can_do deed t = true

abbrev pub numbered_as : ℕ → ℕ → LocDurable → LocDurable
numbered_as next_id next_stamp d = record d { next_id = next_id; next_stamp = next_stamp }

abbrev pub loc_body_taken : LocBody → LocDurable → Option LocDurable
loc_body_taken (First ls next_id next_stamp) d = Some (numbered_as next_id next_stamp (record d { entries = entries_set ls d.entries }))
loc_body_taken (Boot boot) d = Some (record d { boot = boot })
loc_body_taken (Database deed next_id next_stamp) d =
    if can_do deed d.entries then Some (numbered_as next_id next_stamp (record d { entries = entries_after deed d.entries })) else None

abbrev pub loc_with_reply : Option Node → RecordHead → LocDurable → LocDurable
loc_with_reply None h d = d
loc_with_reply (Some caller) h d = record d { kept = set (node_number caller) (kept_by h) d.kept }

abbrev pub loc_with_journal : ℕ → LocDurable → LocDurable
loc_with_journal n d = record d { journal = n }

-- one record
unfoldable pub loc_folded : LocRecord → LocDurable → Option LocDurable
loc_folded r d = loc_body_taken r.body d >>= λ e. Some (loc_with_journal (loc_placing d r).journal (loc_with_reply r.head.caller r.head e))

-- records from the first on: the first tells the entries of set-up

abbrev pub loc_is_first : LocBody → Bool
loc_is_first (First ls next_id next_stamp) = true
loc_is_first body = false

abbrev pub loc_first_folded : LocRecord → LocDurable → Option LocDurable
loc_first_folded r d = if loc_is_first r.body then loc_folded r d else None

abbrev pub loc_fold_from : List (List ℕ) → LocDurable → Option LocDurable
loc_fold_from [] d = Some d
loc_fold_from (bytes ∷ rest) d = loc_record_at bytes >>= λ r. (loc_folded r d >>= loc_fold_from rest)

-- what the bytes of records stand for, on a disk of this capacity; a missing first record counts as one that can't be taken
abbrev pub loc_fold_all : ℕ → List (List ℕ) → Option LocDurable
loc_fold_all capacity [] = None
loc_fold_all capacity (bytes ∷ rest) = loc_record_at bytes >>= λ r. (loc_first_folded r (nothing_listed capacity) >>= loc_fold_from rest)

-- The records are those of a disk with this durable part.
abbrev pub LocStandFor : List (List ℕ) → LocDurable → Type 0
LocStandFor records d = loc_fold_all d.capacity records ≡ Some d

-- ---- which record can't be taken: its number, from 1

abbrev pub loc_bad_by : ℕ → Option LocDurable → (LocDurable → Option ℕ) → Option ℕ
loc_bad_by number None next = Some number
loc_bad_by number (Some d) next = next d

abbrev pub loc_bad_from : ℕ → List (List ℕ) → LocDurable → Option ℕ
loc_bad_from number [] d = None
loc_bad_from number (bytes ∷ rest) d = loc_bad_by number (loc_record_at bytes >>= λ r. loc_folded r d) (loc_bad_from (number + 1) rest)

abbrev pub loc_first_bad : ℕ → List (List ℕ) → Option ℕ
loc_first_bad capacity [] = Some 1
loc_first_bad capacity (bytes ∷ rest) = loc_bad_by 1 (loc_record_at bytes >>= λ r. loc_first_folded r (nothing_listed capacity)) (loc_bad_from 2 rest)

-- ---- a start

abbrev pub loc_boot_record : ℕ → LocRecord
loc_boot_record boot = record { head = no_head; body = Boot boot }

-- The next boot number fits: it is a word, and there is room for its record.
abbrev pub loc_can_boot : LocDurable → Bool
loc_can_boot d = nat_lt d.boot last_count && loc_has_room d (loc_boot_record (d.boot + 1))

-- ---- set-up: the volumes of the script, in order, each at its server, and unlocked. They have the first numbers.

abbrev pub listed_line : VolumeLine → Listed
listed_line v = record { entry = entry_of_line v; lock = None }

abbrev pub lines_listed : List VolumeLine → List Listed
lines_listed [] = []
lines_listed (v ∷ vs) = listed_line v ∷ lines_listed vs

abbrev pub loc_first_record : List VolumeLine → LocRecord
loc_first_record vs = record { head = no_head; body = First (lines_listed vs) (first_id + length vs) first_stamp }

-- a new disk of this capacity; None where the first record doesn't fit
abbrev pub loc_set_up : ℕ → List VolumeLine → Option LocDurable
loc_set_up capacity vs =
    if loc_has_room (nothing_listed capacity) (loc_first_record vs) then loc_first_folded (loc_first_record vs) (nothing_listed capacity) else None
