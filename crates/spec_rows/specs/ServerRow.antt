-- The row of a file server: what it decides on a message, and what it then does with its volumes and its callers. What it does
-- with its promises stands in Callbacks.
use Rattle.std.specs.Prelude.{ℕ, ◌+◌, List, [], ◌∷◌, Bool, true, false, not, Option, Some, None, Ok, Err, ℤ, pos, negsuc, nat_eq, nat_lt, map, filter, length, if◌then◌else◌}
use Rattle.std.specs.Prelude as outcome
use Rattle.std.specs.List.{list_any}
use Rattle.afs_num.specs.Nodes.{node_number, same_node}
use Rattle.afs_num.specs.declared.types.Fid.{Fid}
use Rattle.afs_num.specs.declared.types.Node.{Node}
use Rattle.afs_num.specs.declared.types.Node.TheVariants.{Client}
use Rattle.afs_num.specs.declared.types.Half.TheVariants as halves
use Rattle.afs_num.specs.declared.types.Head.{Head}
use Rattle.afs_num.specs.declared.calls.AfsCallBack.{AfsCallBack}
use Rattle.afs_num.specs.declared.calls.AfsFetchStatus.{AfsFetchStatus}
use Rattle.afs_num.specs.declared.calls.AfsVolSync.{AfsVolSync}
use Rattle.afs_num.specs.declared.calls.FsCall.{FsCall}
use Rattle.afs_num.specs.declared.calls.FsReply.{FsReply}
use Rattle.afs_num.specs.declared.calls.FsReply.TheVariants as replies
use Rattle.afs_num.specs.declared.messages.Carried.{Carried}
use Rattle.afs_num.specs.declared.messages.Carried.TheVariants as carried
use Rattle.afs_num.specs.declared.messages.Reply.TheVariants as tell
use Rattle.afs_num.specs.declared.messages.Call.TheVariants as ask
use Rattle.afs_num.specs.declared.messages.Message.{Message}
use Rattle.afs_num.specs.declared.messages.Received.{Received}
use Rattle.afs_num.specs.declared.messages.Received.TheVariants.{Nothing, Unserved, Unreadable, Whole}
use Rattle.afs_num.specs.declared.histories.Version.{Version}
use Rattle.spec_ideal.specs.Operations.{Caller, the_user, Found, Shown, shows_body, shows_status, shows_acl, shows_statuses, shows_volume, Result, refused, reads, changes, no_operation, op, volume_called}
use Rattle.spec_ideal.specs.Replies.{found_status, sync_of, reading_reply, change_reply, vnode_at}
use Rattle.spec_ideal.specs.Tables.{Table, get, set}
use Rattle.spec_ideal.specs.Volumes.{fid_of, Volume, Edit, versions_by, edited_all, counted}
use Rattle.spec_history.specs.declared.lines.Line.{Line}
use Rattle.spec_rows.specs.States.{Seat, Lasting, durable_of, ServerState}
use Rattle.spec_rows.specs.Steps.{begun_before, Begun, Step}
use Rattle.spec_model.specs.Calls.{Admitted, admitted, call_seated, key_of}
use Rattle.spec_model.specs.Messages.{spelled}
use Rattle.afs_num.specs.declared.records.StoreRecord.{StoreRecord}
use Rattle.spec_records.specs.Changes.{keeping, change_record, stored_after, boot_record}
use Rattle.spec_records.specs.Durable.{Stored, time_in, placing, has_room, is_flagged}
use Rattle.spec_shape.specs.Reading.{◌>>=◌}
use Rattle.spec_shape.specs.Rows.{no_callback, no_sync}
use Rattle.afs_num.specs.declared.calls.FsCall.TheVariants as calls
use Rattle.spec_model.specs.Calls as pairs
use Rattle.spec_history.specs.declared.lines.Line.TheVariants as lines

-- ---- promises in replies

-- a promise lasts so many ticks
abbrev pub promise_ticks : ℕ
promise_ticks = 7200

-- a shared promise
abbrev pub promise_until : ℕ → AfsCallBack
promise_until expiry = record { version = 1; expiration_time = expiry; kind = 2 }

-- the reply, with the server's promise where it has a place for one
abbrev pub promised_in : ℕ → FsReply → FsReply
promised_in expiry (replies.FetchData contents status callback sync) = replies.FetchData contents status (promise_until expiry) sync
promised_in expiry (replies.FetchStatus status callback sync) = replies.FetchStatus status (promise_until expiry) sync
promised_in expiry (replies.BulkStatus statuses callbacks sync) = replies.BulkStatus statuses (map (λ (c : AfsCallBack). promise_until expiry) callbacks) sync
promised_in expiry (replies.CreateFile fid status directory callback sync) = replies.CreateFile fid status directory (promise_until expiry) sync
promised_in expiry (replies.MakeDir fid status directory callback sync) = replies.MakeDir fid status directory (promise_until expiry) sync
promised_in expiry reply = reply

-- the vnodes that a reading reply promises
abbrev pub granted_by : Shown → List Found
granted_by (shows_body f) = f ∷ []
granted_by (shows_status f) = f ∷ []
granted_by (shows_acl f) = []
granted_by (shows_statuses fs) = fs
granted_by shows_volume = []

-- ---- replies

-- the header of the reply to a call, by a server of this boot
abbrev pub reply_head : ℕ → Head → Head
reply_head boot head = record {
  half = halves.Reply;
  from = head.to;
  to = head.from;
  epoch = head.epoch;
  number = head.number;
  boot = boot;
  stamp = 0;
  opcode = head.opcode;
}

abbrev pub replied : ℕ → Head → Carried → Message
replied boot head c = record { head = reply_head boot head; carried = c }

-- the answer to a call under another boot: this one's number
abbrev pub boot_told : ℕ → Head → Message
boot_told boot head = record { head = record (reply_head boot head) { half = halves.Boot }; carried = carried.Notice }

abbrev pub refusal : ℕ → Head → ℤ → Message
refusal boot head code = replied boot head (carried.Refusal (record { 0 = code }))

-- what a reading call is told: its reply, still without promises; the vnodes that are promised; and the fids of which the
-- caller gives its promises up
pub record Reading : Type 0 where
  pub reply : FsReply
  pub granted : List Found
  pub given_up : List Fid

abbrev pub read_reply_to : ℕ → Head → ℕ → Reading → Message
read_reply_to boot head expiry r = replied boot head (carried.Reply (tell.File (promised_in expiry r.reply)))

-- what is read in a volume, for a caller
abbrev pub reading_in : ℕ → Caller → Stored → Shown → Reading
reading_in id caller st shown = record { reply = reading_reply id caller (time_in st) st.volume shown; granted = granted_by shown; given_up = [] }

-- a change: of which volume, by whose call, the volume before, the edits, and the vnode that the reply shows beside those that
-- the call names
pub record Change : Type 0 where
  pub id : ℕ
  pub caller : Caller
  pub call : FsCall
  pub before : Stored
  pub edits : List Edit
  pub shown : ℕ

abbrev pub versions_made : Change → List Version
versions_made c = versions_by c.id c.edits c.before.volume

abbrev pub result : Change → Volume
result c = counted (edited_all c.id c.edits c.before.volume)

-- with what stands beside it, where the change is made at this time
abbrev pub stored_by : ℕ → Change → Stored
stored_by time c = stored_after c.id time c.edits c.before

-- the vnode that a reply shows, as it stands in the volume
abbrev pub found_at : ℕ → Volume → ℕ → Found
found_at id v n = record { fid = fid_of id n (vnode_at v n); vnode = vnode_at v n }

-- the new vnodes that a change promises
abbrev pub granted_new : ℕ → Volume → ℕ → FsCall → List Found
granted_new id v n (calls.CreateFile d name status) = found_at id v n ∷ []
granted_new id v n (calls.MakeDir d name status) = found_at id v n ∷ []
granted_new id v n call = []

abbrev pub granted_in : Change → List Found
granted_in c = granted_new c.id (result c) c.shown c.call

-- -455: the call isn't served here
abbrev pub not_served : ℤ
not_served = negsuc 454

-- every change has a reply
abbrev pub carried_by : ℕ → Option FsReply → Carried
carried_by expiry None = carried.Refusal (record { 0 = not_served })
carried_by expiry (Some reply) = carried.Reply (tell.File (promised_in expiry reply))

abbrev pub change_reply_to : ℕ → Head → ℕ → Change → Message
change_reply_to boot head clock c =
    replied boot head (carried_by (clock + promise_ticks) (change_reply c.id c.caller (time_in (stored_by clock c)) (result c) c.shown c.call))

-- ---- its record

abbrev pub record_of : ℕ → Head → ℕ → Change → StoreRecord
record_of boot head clock c = change_record (keeping (key_of head) (spelled (change_reply_to boot head clock c))) c.id clock c.edits c.before.volume

-- ---- decisions

pub data Decision : Type 0 where
  drops : Decision
  tells_boot : Head → Decision
  repeats : Message → Decision
  refuses : Head → ℤ → Decision
  shows : Head → Reading → Decision
  saves : Head → Change → Decision

-- the record doesn't fit
abbrev pub no_room : ℤ
no_room = pos 108

-- -453: the user or the fields can't be read
abbrev pub bad_fields : ℤ
bad_fields = negsuc 452

-- the calls that a file server serves so far
abbrev pub serves : ℕ → Bool
serves opcode = list_any (nat_eq opcode) (130 ∷ 131 ∷ 132 ∷ 133 ∷ 134 ∷ 135 ∷ 136 ∷ 137 ∷ 138 ∷ 139 ∷ 140 ∷ 141 ∷ 142 ∷ 147 ∷ 149 ∷ 153 ∷ 155 ∷ [])

-- where a call isn't served here, that is the answer, whatever stands behind its header
abbrev pub code_of_unreadable : ℕ → ℤ
code_of_unreadable opcode = if serves opcode then bad_fields else not_served

-- a change for whose record there is no room is refused
abbrev pub roomed : ServerState → ℕ → Head → Change → Decision
roomed s clock head c =
    if has_room (durable_of s.lasting) (record_of s.lasting.boot head clock c) then saves head c else refuses head no_room

-- in the volume of this number
abbrev pub decided : ServerState → ℕ → Head → Caller → FsCall → ℕ → Stored → Result → Decision
decided s clock head caller call id st (refused code) = refuses head (pos code)
decided s clock head caller call id st (reads shown) = shows head (reading_in id caller st shown)
decided s clock head caller call id st no_operation = refuses head not_served
decided s clock head caller call id st (changes es n) =
    roomed s clock head (record { id = id; caller = caller; call = call; before = st; edits = es; shown = n })

-- 103: no such volume here
abbrev pub no_volume : ℕ
no_volume = 103

abbrev pub in_volume : ServerState → ℕ → Head → Caller → FsCall → ℕ → Option Stored → Decision
in_volume s clock head caller call id None = refuses head (pos no_volume)
in_volume s clock head caller call id (Some st) = decided s clock head caller call id st (op id caller call st.volume)

abbrev pub with_volume : ServerState → ℕ → Head → Caller → FsCall → Option ℕ → Decision
with_volume s clock head caller call None = refuses head not_served
with_volume s clock head caller call (Some id) = in_volume s clock head caller call id (get id s.lasting.volumes)

-- ---- calls that no one volume serves

-- several statuses: each is looked up in the volume of its fid
pub record Sight : Type 0 where
  pub stored : Stored
  pub found : Found

abbrev pub sight_by : Stored → Result → outcome.Result Sight ℕ
sight_by st (refused code) = Err code
sight_by st (reads (shows_status f)) = Ok (record { stored = st; found = f })
sight_by st r = Err no_volume

abbrev pub sight_in : Caller → Fid → Option Stored → outcome.Result Sight ℕ
sight_in caller f None = Err no_volume
sight_in caller f (Some st) = sight_by st (op f.volume caller (calls.FetchStatus f) st.volume)

-- all of them, or the code of the first that fails
abbrev pub sights : Table Stored → Caller → List Fid → outcome.Result (List Sight) ℕ
sights volumes caller [] = Ok []
sights volumes caller (f ∷ fs) = sight_in caller f (get f.volume volumes) >>= λ x. (sights volumes caller fs >>= λ xs. Ok (x ∷ xs))

abbrev pub sight_status : Caller → Sight → AfsFetchStatus
sight_status caller x = found_status caller x.stored.volume (time_in x.stored) x.found

-- the release is that of the first one's volume
abbrev pub sync_of_first : List Sight → AfsVolSync
sync_of_first [] = no_sync
sync_of_first (x ∷ xs) = sync_of x.stored.volume

abbrev pub statuses_read : Caller → List Sight → Reading
statuses_read caller xs = record {
  reply = replies.BulkStatus (map (sight_status caller) xs) (map (λ (x : Sight). no_callback) xs) (sync_of_first xs);
  granted = map (λ (x : Sight). x.found) xs;
  given_up = [];
}

abbrev pub several : Head → Caller → outcome.Result (List Sight) ℕ → Decision
several head caller (Err code) = refuses head (pos code)
several head caller (Ok xs) = shows head (statuses_read caller xs)

-- the clock's ticks, and no microseconds
abbrev pub time_read : ℕ → Reading
time_read clock = record { reply = replies.GetTime clock 0; granted = []; given_up = [] }

abbrev pub given_up_read : List Fid → Reading
given_up_read fids = record { reply = replies.GiveUpCallBacks; granted = []; given_up = fids }

-- ---- a call that can be read
abbrev pub serves_call : ServerState → ℕ → Head → List ℕ → FsCall → Decision
serves_call s clock head user (calls.GiveUpCallBacks fids callbacks) = shows head (given_up_read fids)
serves_call s clock head user calls.GetTime = shows head (time_read clock)
serves_call s clock head user (calls.BulkStatus fids) = several head (the_user user) (sights s.lasting.volumes (the_user user) fids)
serves_call s clock head user call = with_volume s clock head (the_user user) call (volume_called call)

abbrev pub runs_carried : ServerState → ℕ → Head → Carried → Decision
runs_carried s clock head (carried.Call user (ask.File call)) = serves_call s clock head user call
runs_carried s clock head (carried.Call user call) = refuses head not_served
runs_carried s clock head c = drops

-- by what was found in its bytes
abbrev pub runs_received : ServerState → ℕ → Head → Received → Decision
runs_received s clock head Nothing = drops
runs_received s clock head (Unserved other) = refuses head not_served
runs_received s clock head (Unreadable other) = refuses head (code_of_unreadable head.opcode)
runs_received s clock head (Whole m) = runs_carried s clock head m.carried

-- calls of clients alone are served
abbrev pub is_client : Node → Bool
is_client (Client n) = true
is_client n = false

-- a call that is to run
abbrev pub runs : ServerState → ℕ → Head → Received → Decision
runs s clock head r = if is_client head.from then runs_received s clock head r else refuses head not_served

-- a call older than its caller's last one gets no answer. None is in progress here: a reply is kept at once, also where it waits
abbrev pub admits : ServerState → ℕ → Head → Received → Admitted Message → Decision
admits s clock head r pairs.runs = runs s clock head r
admits s clock head r (pairs.kept reply) = repeats reply
admits s clock head r pairs.in_progress = drops
admits s clock head r pairs.older = drops
admits s clock head r (pairs.wrong_boot boot) = tells_boot head

abbrev pub called : Node → ServerState → ℕ → Head → Received → Decision
called me s clock head r = if same_node head.to me then admits s clock head r (admitted s.lasting.boot s.seats head) else drops

-- a message that can be read
abbrev pub whole : Head → Carried → Received
whole head c = Whole (record { head = head; carried = c })

abbrev pub hears : Node → ServerState → ℕ → Head → Carried → Decision
hears me s clock head (carried.Call user call) = called me s clock head (whole head (carried.Call user call))
hears me s clock head (carried.Refusal code) = drops
hears me s clock head (carried.Reply reply) = drops
hears me s clock head carried.Notice = drops

-- a message without a readable header, one to another node, a reply and a notice run nothing
abbrev pub decides : Node → ServerState → ℕ → Received → Decision
decides me s clock Nothing = drops
decides me s clock (Unserved head) = called me s clock head (Unserved head)
decides me s clock (Unreadable head) = called me s clock head (Unreadable head)
decides me s clock (Whole m) = hears me s clock m.head m.carried

-- ---- effects

-- the caller's last call, and its reply
abbrev pub seat_for : Head → Message → Seat
seat_for head reply = record { caller = head.from; epoch = head.epoch; number = head.number; reply = Some reply }

-- the reply is kept beside the pair of its call
abbrev pub keeps : Head → Message → ServerState → ServerState
keeps head reply s = record s { seats = call_seated (seat_for head reply) s.seats }

-- A seat takes the place of its caller's; they stand by ascending numbers of callers.
abbrev pub seat_placed : Seat → List Seat → List Seat
seat_placed seat [] = seat ∷ []
seat_placed seat (s ∷ seats) =
    if same_node s.caller seat.caller then seat ∷ seats
    else (if nat_lt (node_number seat.caller) (node_number s.caller) then seat ∷ s ∷ seats else s ∷ seat_placed seat seats)

-- how long the journal is once this record stands in it
abbrev pub journal_with : StoreRecord → Lasting → ℕ
journal_with r l = (placing (durable_of l) r).journal

-- what a change leaves on the disk: the volume, and the reply
abbrev pub lasting_after : Head → ℕ → Change → Lasting → Lasting
lasting_after head clock c l = record l {
  volumes = set c.id (stored_by clock c) l.volumes;
  kept = seat_placed (seat_for head (change_reply_to l.boot head clock c)) l.kept;
  journal = journal_with (record_of l.boot head clock c) l;
}

abbrev pub saved : Head → ℕ → Change → ServerState → ServerState
saved head clock c s = record s {
  lasting = lasting_after head clock c s.lasting;
  seats = call_seated (seat_for head (change_reply_to s.lasting.boot head clock c)) s.seats;
}

-- versions' lines, before these
abbrev pub versioned : List Version → List Line → List Line
versioned [] ls = ls
versioned (v ∷ vs) ls = lines.Version v ∷ versioned vs ls

-- the lines of promises to a client, before these
abbrev pub granted : Node → Node → ℕ → List Found → List Line → List Line
granted me client expiry [] ls = ls
granted me client expiry (f ∷ fs) ls = lines.Grant me client f.fid f.vnode.index expiry ∷ granted me client expiry fs ls

abbrev pub told : ServerState → ℕ → List Line → Step ServerState
told s place tail = record { state = s; lines = lines.Given place ∷ tail; sent = [] }

abbrev pub refuses_step : ServerState → ℕ → Head → ℤ → List Line → Step ServerState
refuses_step s place head code tail = told (keeps head (refusal s.lasting.boot head code) s) place tail

abbrev pub shows_step : Node → ServerState → ℕ → Head → Reading → ℕ → List Line → Step ServerState
shows_step me s place head r expiry tail = record {
  state = keeps head (read_reply_to s.lasting.boot head expiry r) s;
  lines = lines.Given place ∷ granted me head.from expiry r.granted tail;
  sent = [];
}

abbrev pub saves_step : Node → ServerState → ℕ → ℕ → Head → Change → List Line → Step ServerState
saves_step me s clock place head c tail = record {
  state = saved head clock c s;
  lines = lines.Given place ∷ lines.Change me (key_of head) (length (versions_made c)) ∷ versioned (versions_made c) (granted me head.from (clock + promise_ticks) (granted_in c) tail);
  sent = [];
}

-- what is decided is done; the step's further lines are `tail`
abbrev pub does : Node → ServerState → ℕ → ℕ → Decision → List Line → Step ServerState
does me s clock place drops tail = told s place tail
does me s clock place (tells_boot head) tail = told s place tail
does me s clock place (repeats reply) tail = told s place tail
does me s clock place (refuses head code) tail = refuses_step s place head code tail
does me s clock place (shows head r) tail = shows_step me s place head r (clock + promise_ticks) tail
does me s clock place (saves head c) tail = saves_step me s clock place head c tail

-- ---- the disk, in numbers of its calls

-- a step makes the calls that its record takes, and none where it has none
abbrev pub device_calls : ServerState → ℕ → Decision → ℕ
device_calls s clock (saves head c) = (placing (durable_of s.lasting) (record_of s.lasting.boot head clock c)).calls
device_calls s clock d = 0

-- ---- a restart

abbrev pub is_unflagged : ℕ × Stored → Bool
is_unflagged p = not (is_flagged p.1)

-- what a start leaves on the disk: the next boot number, and the volumes but those with the flag of delete on salvage
abbrev pub lasting_started : Lasting → Lasting
lasting_started l = record l { boot = l.boot + 1; volumes = filter is_unflagged l.volumes; journal = journal_with (boot_record (l.boot + 1)) l }

-- each caller falls back to its last call that changed something. That read-write volumes vanish so is told once volumes have
-- flags; set-up makes none
abbrev pub revived : ServerState → ServerState
revived s = record s { lasting = lasting_started s.lasting; seats = s.lasting.kept }

-- behind an interrupted step whose record is whole: the state after it, and the lines that it would have told
abbrev pub begun_after : Node → ServerState → ℕ → Decision → Begun ServerState
begun_after me s clock (saves head c) = record {
  state = saved head clock c s;
  before = λ ls. lines.Change me (key_of head) (length (versions_made c)) ∷ versioned (versions_made c) ls;
}
begun_after me s clock d = begun_before s
