-- The records of the location database's journal, and the one table that spells them in both directions. The table has the shape of a
-- server's; the numbers of the records are those of one list.
-- Where something is read from bytes, `.0` is what was read, and `.1` are the bytes behind it.
use Rattle.std.specs.Prelude.{◌&&◌, ℕ, List, [], ◌∷◌, length, Bool, true, false, not, Option, Some, None, nat_eq, nat_lt, if◌then◌else◌}
use Rattle.afs_num.specs.declared.location_calls.LocEntry.{LocEntry}
use Rattle.afs_num.specs.declared.location_calls.LocSite.{LocSite}
use Rattle.afs_num.specs.declared.records.RecordHead.{RecordHead}
use Rattle.spec_shape.specs.Rows.{empty_entry}
use Rattle.spec_records.specs.Forms.{Form, word_form, text_form, ◌before◌, known_as, only, list_form}
use Rattle.spec_records.specs.Records.{Row, Slot, ◌&◌, end, flag_form, most_name, numbered, read_in, server_form, spelled_in, word, FitsIn, RecordTable}

-- ---- what the database keeps

-- who holds an entry does: for which operation, under which stamp, and whether it took the lock by force
pub record Lock : Type 0 where
  pub operation : ℕ
  pub stamp : ℕ
  pub forced : Bool

-- an entry, and its lock, if someone holds that
pub record Listed : Type 0 where
  pub entry : LocEntry
  pub lock : Option Lock

-- What a record does with the entries: it sets one with its lock, in the place of the one of its number or as a new one; it removes
-- one; or it leaves them, and draws a number alone.
pub data EntryDeed : Type 0 where
  sets : Listed → EntryDeed
  removes : LocEntry → EntryDeed
  leaves : EntryDeed

-- Set-up has all entries, a start its boot number, a change its deed. Set-up and a change have the next volume number and the next
-- stamp besides, as they are then.
pub data LocBody : Type 0 where
  First : List Listed → ℕ → ℕ → LocBody
  Boot : ℕ → LocBody
  Database : EntryDeed → ℕ → ℕ → LocBody

pub record LocRecord : Type 0 where
  pub head : RecordHead
  pub body : LocBody

-- ---- forms

-- a list of sites has at most so many
abbrev pub most_sites : ℕ
most_sites = 16

abbrev pub site_form : Form LocSite
site_form = known_as (server_form before word_form) (λ s. (s.server, s.flags)) (λ p. Some (record { server = p.0; flags = p.1 }))

abbrev pub sites_form : Form (List LocSite)
sites_form = only (λ sites. not (nat_lt most_sites (length sites))) (list_form site_form)

abbrev pub EntryParts : Type 0
EntryParts = List ℕ × (ℕ × (ℕ × (ℕ × (ℕ × List LocSite))))

abbrev pub entry_parts : LocEntry → EntryParts
entry_parts e = (e.name, (e.read_write, (e.read_only, (e.backup, (e.flags, e.sites)))))

abbrev pub entry_made : EntryParts → Option LocEntry
entry_made p = Some (record { name = p.0; read_write = p.1.0; read_only = p.1.1.0; backup = p.1.1.1.0; flags = p.1.1.1.1.0; sites = p.1.1.1.1.1 })

unfoldable pub entry_form : Form LocEntry
entry_form = known_as (text_form most_name before word_form before word_form before word_form before word_form before sites_form) entry_parts entry_made

-- an entry without a lock has 0 in each of the lock's words
abbrev pub lock_parts : Option Lock → ℕ × (ℕ × Bool)
lock_parts None = (0, (0, false))
lock_parts (Some l) = (l.operation, (l.stamp, l.forced))

abbrev pub lock_made : ℕ × (ℕ × Bool) → Option (Option Lock)
lock_made p =
    if nat_eq p.0 0 then (if nat_eq p.1.0 0 && not p.1.1 then Some None else None)
    else Some (Some (record { operation = p.0; stamp = p.1.0; forced = p.1.1 }))

abbrev pub lock_form : Form (Option Lock)
lock_form = known_as (word_form before word_form before flag_form) lock_parts lock_made

abbrev pub listed_form : Form Listed
listed_form = known_as (entry_form before lock_form) (λ l. (l.entry, l.lock)) (λ p. Some (record { entry = p.0; lock = p.1 }))

-- 0 sets the entry, 1 removes it, 2 leaves all as they are. An entry that goes stands as it was, without its lock; where none is
-- named, all fields are 0 or empty
abbrev pub deed_parts : EntryDeed → ℕ × Listed
deed_parts (sets l) = (0, l)
deed_parts (removes e) = (1, record { entry = e; lock = None })
deed_parts leaves = (2, record { entry = empty_entry; lock = None })

abbrev pub is_empty : {A : Type 0} → List A → Bool
is_empty {A} [] = true
is_empty {A} (x ∷ xs) = false

abbrev pub is_no_entry : LocEntry → Bool
is_no_entry e = is_empty e.name && (nat_eq e.read_write 0 && (nat_eq e.read_only 0 && (nat_eq e.backup 0 && (nat_eq e.flags 0 && is_empty e.sites))))

abbrev pub unlocked_by : Option Lock → Option EntryDeed → Option EntryDeed
unlocked_by None d = d
unlocked_by (Some l) d = None

abbrev pub deed_made : ℕ × Listed → Option EntryDeed
deed_made p =
    if nat_eq p.0 0 then Some (sets p.1)
    else (if nat_eq p.0 1 then unlocked_by p.1.lock (Some (removes p.1.entry))
    else (if nat_eq p.0 2 && is_no_entry p.1.entry then unlocked_by p.1.lock (Some leaves) else None))

abbrev pub deed_form : Form EntryDeed
deed_form = known_as (word_form before listed_form) deed_parts deed_made

-- ---- the table

abbrev pub listed : List Listed → Slot (List Listed)
listed ls = record { form = list_form listed_form; value = ls }

abbrev pub deed : EntryDeed → Slot EntryDeed
deed d = record { form = deed_form; value = d }

abbrev pub row : LocBody → Row LocBody
row (First entries next_id next_stamp) = numbered 1 First (listed entries & word next_id & word next_stamp & end)
row (Boot boot) = numbered 3 Boot (word boot & end)
row (Database d next_id next_stamp) = numbered 11 Database (deed d & word next_id & word next_stamp & end)

-- one body of each row, whatever its fields hold
abbrev pub each : List LocBody
each = First [] 0 0 ∷ Boot 0 ∷ Database leaves 0 0 ∷ []

abbrev pub loc_table : RecordTable LocBody
loc_table = record { row = row; each = each }

-- ---- a record of the database

unfoldable pub loc_record_bytes : LocRecord → List ℕ
loc_record_bytes r = spelled_in loc_table r.head r.body

abbrev pub loc_record : RecordHead → LocBody → LocRecord
loc_record head body = record { head = head; body = body }

-- the record that these bytes are, if they are one
unfoldable pub loc_record_at : List ℕ → Option LocRecord
loc_record_at bytes = read_in loc_table loc_record bytes

-- within the limits: it has a spelling
abbrev pub FitsLocRecord : LocRecord → Type 0
FitsLocRecord r = FitsIn loc_table r.head r.body
