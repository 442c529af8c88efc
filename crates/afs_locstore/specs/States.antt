-- What the database's disk keeps, as it stands in memory; what a record says, ready to be done, and the record that says it.
use Rattle.std.specs.Prelude.{◌≡◌, ◌<◌, ℕ, length, Option}
use Rattle.std.specs.Option.{option_map}
use Rattle.afs_num.specs.declared.records.RecordHead.{RecordHead}
use Rattle.spec_records.specs.LocDurable.{loc_body_taken, loc_with_reply, LocDurable}
use Rattle.spec_records.specs.LocRecords.{leaves, loc_record_bytes, removes, sets, Boot, Database, First, FitsLocRecord, LocBody, LocRecord}
use Rattle.afs_locstore.specs.Listings.{are_placed, CanBeAllPut, CanBePut, HasRoomOf}
use Rattle.afs_locstore.specs.declared.memory.State.{State}
use Rattle.afs_locstore.specs.declared.ready.Ready.{Ready}
use Rattle.afs_locstore.specs.declared.ready.Redo.{Redo}
use Rattle.afs_locstore.specs.declared.ready.Redo.TheVariants as redos

-- The journal's length and the disk's capacity stand elsewhere.
abbrev pub parts_of : State → LocDurable
parts_of s = record { boot = s.boot; entries = s.entries.table; next_id = s.next_id; next_stamp = s.next_stamp; kept = s.kept.table; journal = 0; capacity = 0 }

-- on a disk of this capacity, with a journal of this length
abbrev pub loc_on_disk : ℕ → ℕ → LocDurable → LocDurable
loc_on_disk journal capacity d = record d { journal = journal; capacity = capacity }

-- ---- a record

abbrev pub body_of : Redo → LocBody
body_of (redos.First placed next_id next_stamp) = First (are_placed placed) next_id next_stamp
body_of (redos.Boot boot) = Boot boot
body_of (redos.Sets placed next_id next_stamp) = Database (sets placed.listed) next_id next_stamp
body_of (redos.Removes entry next_id next_stamp) = Database (removes entry) next_id next_stamp
body_of (redos.Leaves next_id next_stamp) = Database leaves next_id next_stamp

abbrev pub record_of : RecordHead → Redo → LocRecord
record_of head redo = record { head = head; body = body_of redo }

-- what it does in memory
abbrev pub loc_done : LocRecord → LocDurable → Option LocDurable
loc_done r d = option_map (loc_with_reply r.head.caller r.head) (loc_body_taken r.body d)

-- the entries that it puts can be put
abbrev pub CanPut : Redo → Type 0
CanPut (redos.First placed next_id next_stamp) = CanBeAllPut placed
CanPut (redos.Sets placed next_id next_stamp) = CanBePut placed
CanPut redo = Unit {0}

-- the bytes are those of the record, and what it says is ready to be done
pub record IsSpelledOut (p : Ready) : Type 0 where
  pub fits : FitsLocRecord (record_of p.head p.redo)
  pub spelled : loc_record_bytes (record_of p.head p.redo) ≡ p.bytes
  pub can : CanPut p.redo

-- how many entries more there may be after it
abbrev pub entries_added : Redo → ℕ
entries_added (redos.First placed next_id next_stamp) = length placed
entries_added (redos.Sets placed next_id next_stamp) = 1
entries_added redo = 0

-- there is room for them, and for its reply
pub record HasRoomFor (redo : Redo) (s : State) : Type 0 where
  pub kept : 0 < s.kept.room
  pub entries : HasRoomOf (entries_added redo) s.entries.rooms
