-- The row of the location database: what it decides on a message, and what that leaves of its entries and its callers. It makes no
-- calls of its own, and no reply of it waits.
use Rattle.std.specs.Prelude.{◌+◌, ◌&&◌, ◌||◌, ℕ, zero, suc, List, [], ◌∷◌, length, map, Bool, true, false, not, Option, Some, None, ℤ, pos, find, nat_eq, nat_lt, if◌then◌else◌}
use Rattle.std.specs.List.{list_any}
use Rattle.std.specs.Str.{bytes_eq}
use Rattle.afs_num.specs.Names.{volume_name_ok}
use Rattle.afs_num.specs.Nodes.{same_node}
use Rattle.afs_num.specs.declared.location_calls.LocCall.{LocCall}
use Rattle.afs_num.specs.declared.location_calls.LocCall.TheVariants as calls
use Rattle.afs_num.specs.declared.location_calls.LocEntry.{LocEntry}
use Rattle.afs_num.specs.declared.location_calls.LocReply.{LocReply}
use Rattle.afs_num.specs.declared.location_calls.LocReply.TheVariants as replies
use Rattle.afs_num.specs.declared.messages.Call.TheVariants as ask
use Rattle.afs_num.specs.declared.messages.Carried.{Carried}
use Rattle.afs_num.specs.declared.messages.Carried.TheVariants as carried
use Rattle.afs_num.specs.declared.messages.Message.{Message}
use Rattle.afs_num.specs.declared.messages.Received.{Received}
use Rattle.afs_num.specs.declared.messages.Received.TheVariants.{Nothing, Unserved, Unreadable, Whole}
use Rattle.afs_num.specs.declared.messages.Reply.TheVariants as tell
use Rattle.afs_num.specs.declared.types.Head.{Head}
use Rattle.afs_num.specs.declared.types.Node.TheVariants.{Loc}
use Rattle.spec_ideal.specs.Operations.{last_count}
use Rattle.spec_ideal.specs.Tables.{Table}
use Rattle.spec_model.specs.Calls.{admitted, call_seated, Admitted, key_of}
use Rattle.spec_model.specs.Calls as pairs
use Rattle.spec_model.specs.Messages.{spelled}
use Rattle.spec_records.specs.Changes.{keeping}
use Rattle.spec_records.specs.LocDurable.{entries_after, loc_boot_record, loc_can_boot, loc_has_room, loc_placing, LocDurable}
use Rattle.spec_records.specs.LocRecords.{leaves, removes, sets, Database, EntryDeed, Listed, LocRecord, Lock}
use Rattle.spec_rows.specs.ServerRow.{bad_fields, boot_told, no_room, not_served, refusal, replied, seat_for, seat_placed, whole}
use Rattle.spec_rows.specs.States.{kept_by_number, Seat}

-- ---- its state

-- What outlives a crash: its boot number; the entries by the numbers of their read-write volumes; the volume number and the stamp that
-- will be drawn next; by ascending numbers the callers that ever changed something, each with the last call that did and its reply;
-- the length of its journal, and how long that can get
pub record LocLasting : Type 0 where
  pub boot : ℕ
  pub entries : Table Listed
  pub next_id : ℕ
  pub next_stamp : ℕ
  pub kept : List Seat
  pub journal : ℕ
  pub capacity : ℕ

abbrev pub loc_durable_of : LocLasting → LocDurable
loc_durable_of l = record {
  boot = l.boot;
  entries = l.entries;
  next_id = l.next_id;
  next_stamp = l.next_stamp;
  kept = kept_by_number l.kept;
  journal = l.journal;
  capacity = l.capacity;
}

-- what outlives a crash, and its callers
pub record LocState : Type 0 where
  pub lasting : LocLasting
  pub seats : List Seat

-- ---- what is found

-- by the numbers of their read-write volumes
abbrev pub all_listed : Table Listed → List Listed
all_listed t = map (λ (p : ℕ × Listed). p.1) t

-- one of its three volumes has this number; 0 is the number of none
abbrev pub has_id : ℕ → LocEntry → Bool
has_id id e = not (nat_eq id 0) && (nat_eq e.read_write id || (nat_eq e.read_only id || nat_eq e.backup id))

abbrev pub found_id : ℕ → Table Listed → Option Listed
found_id id t = find (λ (l : Listed). has_id id l.entry) (all_listed t)

abbrev pub is_named : List ℕ → LocEntry → Bool
is_named name e = bytes_eq e.name name

abbrev pub found_name : List ℕ → Table Listed → Option Listed
found_name name t = find (λ (l : Listed). is_named name l.entry) (all_listed t)

-- the entry at this index, from 0
abbrev pub nth : ℕ → List Listed → Option Listed
nth n [] = None
nth zero (l ∷ ls) = Some l
nth (suc n) (l ∷ ls) = nth n ls

-- ---- refusals

-- 363524: no entry has that number, name or index
abbrev pub unlisted : ℤ
unlisted = pos 363524

-- 363541: another holds the lock, or nobody does
abbrev pub is_locked : ℤ
is_locked = pos 363541

-- 363542: no such operation
abbrev pub no_such_operation : ℤ
no_such_operation = pos 363542

-- 363527: a volume can't have that name
abbrev pub bad_name : ℤ
bad_name = pos 363527

-- 363520: another entry has one of the numbers
abbrev pub taken_id : ℤ
taken_id = pos 363520

-- 363522: another entry has the name
abbrev pub taken_name : ℤ
taken_name = pos 363522

-- 363532: there are too many sites
abbrev pub too_many_sites : ℤ
too_many_sites = pos 363532

-- ---- what a call does

-- what it does with the entries, the next volume number and the next stamp behind it, and what it is answered
pub record LocChange : Type 0 where
  pub deed : EntryDeed
  pub next_id : ℕ
  pub next_stamp : ℕ
  pub reply : LocReply

pub data LocResult : Type 0 where
  refused : ℤ → LocResult
  reads : LocReply → LocResult
  changes : LocChange → LocResult

-- with the entry, if there is one
abbrev pub with_entry : Option Listed → (Listed → LocResult) → LocResult
with_entry None more = refused unlisted
with_entry (Some l) more = more l

-- the lock is there, and is held under this stamp
abbrev pub holds : ℕ → Option Lock → Bool
holds stamp None = false
holds stamp (Some k) = nat_eq k.stamp stamp

-- with the entry, where who calls with this stamp holds its lock
abbrev pub with_lock : ℕ → Option Listed → (Listed → LocResult) → LocResult
with_lock stamp o more = with_entry o (λ l. if holds stamp l.lock then more l else refused is_locked)

-- one of the new entry's numbers, other than 0, is one of this
abbrev pub shares_id : LocEntry → LocEntry → Bool
shares_id new e = has_id new.read_write e || (has_id new.read_only e || has_id new.backup e)

-- it isn't the one in whose place the new one comes
abbrev pub is_other : Option LocEntry → LocEntry → Bool
is_other None e = true
is_other (Some old) e = not (nat_eq e.read_write old.read_write)

abbrev pub any_other : Option LocEntry → (LocEntry → Bool) → Table Listed → Bool
any_other old test t = list_any (λ (l : Listed). is_other old l.entry && test l.entry) (all_listed t)

-- an entry that is listed has at most so many sites
abbrev pub most_listed_sites : ℕ
most_listed_sites = 8

-- a new entry, in the place of an old one or of none
abbrev pub entry_fits : Option LocEntry → LocEntry → Table Listed → LocResult → LocResult
entry_fits old new t more =
    if not (volume_name_ok new.name) then refused bad_name
    else (if any_other old (shares_id new) t then refused taken_id
    else (if any_other old (is_named new.name) t then refused taken_name
    else (if nat_lt most_listed_sites (length new.sites) then refused too_many_sites else more)))

-- a counter that is raised must not stand at its last value
abbrev pub raises : ℕ → LocResult → LocResult
raises n more = if nat_lt n last_count then more else refused no_room

-- 16: a move, a recovery, or that an entry is made; 32: a release, or a new site; 64: a backup or a dump; 128: a removal
abbrev pub is_operation : ℕ → Bool
is_operation n = list_any (nat_eq n) (16 ∷ 32 ∷ 64 ∷ 128 ∷ [])

-- a new entry is locked for this
abbrev pub made_for : ℕ
made_for = 16

-- the entry is set, with this lock; no number is drawn
abbrev pub sets_to : LocLasting → LocEntry → Option Lock → LocReply → LocResult
sets_to d e lock reply = changes (record { deed = sets (record { entry = e; lock = lock }); next_id = d.next_id; next_stamp = d.next_stamp; reply = reply })

-- the entry is locked under the next stamp
abbrev pub locks : LocLasting → LocEntry → ℕ → Bool → LocReply → LocResult
locks d e operation forced reply = raises d.next_stamp (changes (record {
  deed = sets (record { entry = e; lock = Some (record { operation = operation; stamp = d.next_stamp; forced = forced }) });
  next_id = d.next_id;
  next_stamp = d.next_stamp + 1;
  reply = reply;
}))

-- any word but 0 asks for force
abbrev pub is_force : ℕ → Bool
is_force force = not (nat_eq force 0)

-- a lock stands in the way of who doesn't take it by force
abbrev pub is_barred : Option Lock → ℕ → Bool
is_barred None force = false
is_barred (Some k) force = not (is_force force)

abbrev pub locks_for : LocLasting → ℕ → ℕ → Listed → LocResult
locks_for d operation force l =
    if is_barred l.lock force then refused is_locked
    else (if is_operation operation then locks d l.entry operation (is_force force) (replies.SetLock d.next_stamp l.entry) else refused no_such_operation)

-- the entry goes, and its lock with it
abbrev pub entry_goes : LocLasting → Listed → LocResult
entry_goes d l = changes (record { deed = removes l.entry; next_id = d.next_id; next_stamp = d.next_stamp; reply = replies.DeleteEntry })

-- a volume number is drawn
abbrev pub draws : LocLasting → LocResult
draws d = raises d.next_id (changes (record { deed = leaves; next_id = d.next_id + 1; next_stamp = d.next_stamp; reply = replies.GetNewVolumeId d.next_id }))

-- what each call does, by the stamp in its header; refusals come in the order of these tests
abbrev pub loc_op : ℕ → LocCall → LocLasting → LocResult
loc_op stamp (calls.CreateEntry e) d = entry_fits None e d.entries (locks d e made_for false (replies.CreateEntry d.next_stamp))
loc_op stamp (calls.DeleteEntry id) d = with_lock stamp (found_id id d.entries) (entry_goes d)
loc_op stamp (calls.GetEntryById id) d = with_entry (found_id id d.entries) (λ l. reads (replies.GetEntryById l.entry))
loc_op stamp (calls.GetEntryByName name) d = with_entry (found_name name d.entries) (λ l. reads (replies.GetEntryByName l.entry))
loc_op stamp calls.GetNewVolumeId d = draws d
loc_op stamp (calls.ReplaceEntry id e) d = with_lock stamp (found_id id d.entries) (λ l. entry_fits (Some l.entry) e d.entries (sets_to d e l.lock replies.ReplaceEntry))
loc_op stamp (calls.SetLock id operation force) d = with_entry (found_id id d.entries) (locks_for d operation force)
loc_op stamp (calls.ReleaseLock id) d = with_lock stamp (found_id id d.entries) (λ l. sets_to d l.entry None replies.ReleaseLock)
loc_op stamp (calls.ListEntry index) d = with_entry (nth index (all_listed d.entries)) (λ l. reads (replies.ListEntry (index + 1) l.entry))

-- ---- decisions

pub data LocDecision : Type 0 where
  drops : LocDecision
  tells_boot : Head → LocDecision
  repeats : Message → LocDecision
  refuses : Head → ℤ → LocDecision
  shows : Head → LocReply → LocDecision
  saves : Head → LocChange → LocDecision

abbrev pub reply_to : ℕ → Head → LocReply → Message
reply_to boot head reply = replied boot head (carried.Reply (tell.Location reply))

abbrev pub loc_record_of : ℕ → Head → LocChange → LocRecord
loc_record_of boot head c = record { head = keeping (key_of head) (spelled (reply_to boot head c.reply)); body = Database c.deed c.next_id c.next_stamp }

-- a change for whose record there is no room is refused
abbrev pub roomed : LocState → Head → LocChange → LocDecision
roomed s head c = if loc_has_room (loc_durable_of s.lasting) (loc_record_of s.lasting.boot head c) then saves head c else refuses head no_room

abbrev pub decided : LocState → Head → LocResult → LocDecision
decided s head (refused code) = refuses head code
decided s head (reads reply) = shows head reply
decided s head (changes c) = roomed s head c

abbrev pub runs_carried : LocState → Head → Carried → LocDecision
runs_carried s head (carried.Call user (ask.Location call)) = decided s head (loc_op head.stamp call s.lasting)
runs_carried s head (carried.Call user call) = refuses head not_served
runs_carried s head c = drops

-- the calls that it serves
abbrev pub loc_serves : ℕ → Bool
loc_serves opcode = list_any (nat_eq opcode) (501 ∷ 502 ∷ 503 ∷ 504 ∷ 505 ∷ 506 ∷ 508 ∷ 509 ∷ 510 ∷ [])

-- by what was found in its bytes
abbrev pub runs_received : LocState → Head → Received → LocDecision
runs_received s head Nothing = drops
runs_received s head (Unserved other) = refuses head not_served
runs_received s head (Unreadable other) = refuses head (if loc_serves head.opcode then bad_fields else not_served)
runs_received s head (Whole m) = runs_carried s head m.carried

-- Whoever calls is served, but the database itself: it makes no calls, and a record can't keep a reply to it.
abbrev pub runs : LocState → Head → Received → LocDecision
runs s head r = if same_node head.from Loc then refuses head not_served else runs_received s head r

-- none is in progress: a reply is kept at once
abbrev pub admits : LocState → Head → Received → Admitted Message → LocDecision
admits s head r pairs.runs = runs s head r
admits s head r (pairs.kept reply) = repeats reply
admits s head r pairs.in_progress = drops
admits s head r pairs.older = drops
admits s head r (pairs.wrong_boot boot) = tells_boot head

abbrev pub called : LocState → Head → Received → LocDecision
called s head r = if same_node head.to Loc then admits s head r (admitted s.lasting.boot s.seats head) else drops

abbrev pub hears : LocState → Head → Carried → LocDecision
hears s head (carried.Call user call) = called s head (whole head (carried.Call user call))
hears s head c = drops

-- a message without a readable header, one to another node, a reply and a notice run nothing
abbrev pub loc_decides : LocState → Received → LocDecision
loc_decides s Nothing = drops
loc_decides s (Unserved head) = called s head (Unserved head)
loc_decides s (Unreadable head) = called s head (Unreadable head)
loc_decides s (Whole m) = hears s m.head m.carried

-- ---- what a decision leaves

-- how long the journal is once this record stands in it
abbrev pub loc_journal_with : LocRecord → LocLasting → ℕ
loc_journal_with r l = (loc_placing (loc_durable_of l) r).journal

-- on the disk a change leaves the entries and the counters, and the reply
abbrev pub loc_lasting_after : Head → LocChange → LocLasting → LocLasting
loc_lasting_after head c l = record l {
  entries = entries_after c.deed l.entries;
  next_id = c.next_id;
  next_stamp = c.next_stamp;
  kept = seat_placed (seat_for head (reply_to l.boot head c.reply)) l.kept;
  journal = loc_journal_with (loc_record_of l.boot head c) l;
}

abbrev pub loc_saved : Head → LocChange → LocState → LocState
loc_saved head c s = record s {
  lasting = loc_lasting_after head c s.lasting;
  seats = call_seated (seat_for head (reply_to s.lasting.boot head c.reply)) s.seats;
}

-- a reply that changes nothing is kept in memory, beside the pair of its call
abbrev pub loc_keeps : Head → Message → LocState → LocState
loc_keeps head reply s = record s { seats = call_seated (seat_for head reply) s.seats }

-- the state that it leaves
abbrev pub loc_left : LocState → LocDecision → LocState
loc_left s drops = s
loc_left s (tells_boot head) = s
loc_left s (repeats reply) = s
loc_left s (refuses head code) = loc_keeps head (refusal s.lasting.boot head code) s
loc_left s (shows head reply) = loc_keeps head (reply_to s.lasting.boot head reply) s
loc_left s (saves head c) = loc_saved head c s

-- what it sends: a reply goes out at once
abbrev pub loc_sent : LocState → LocDecision → List Message
loc_sent s drops = []
loc_sent s (tells_boot head) = boot_told s.lasting.boot head ∷ []
loc_sent s (repeats reply) = reply ∷ []
loc_sent s (refuses head code) = refusal s.lasting.boot head code ∷ []
loc_sent s (shows head reply) = reply_to s.lasting.boot head reply ∷ []
loc_sent s (saves head c) = reply_to s.lasting.boot head c.reply ∷ []

-- a step makes the device calls that its record takes, and none where it has none
abbrev pub loc_device_calls : LocState → LocDecision → ℕ
loc_device_calls s (saves head c) = (loc_placing (loc_durable_of s.lasting) (loc_record_of s.lasting.boot head c)).calls
loc_device_calls s d = 0

-- ---- a restart

-- what a start leaves on the disk: the next boot number
abbrev pub loc_lasting_started : LocLasting → LocLasting
loc_lasting_started l = record l { boot = l.boot + 1; journal = loc_journal_with (loc_boot_record (l.boot + 1)) l }

-- each caller falls back to its last call that changed something
abbrev pub loc_revived : LocState → LocState
loc_revived s = record { lasting = loc_lasting_started s.lasting; seats = s.lasting.kept }

-- the next boot number has a record, and that fits
abbrev pub loc_can_start : LocState → Bool
loc_can_start s = loc_can_boot (loc_durable_of s.lasting)
