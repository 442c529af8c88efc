-- The steps of clients tell nothing of where volumes accept stores, and what they send are calls of files and of locations, and replies.
use Rattle.std.proofs.Common.{ℕ, ◌+◌, Bool, true, false, cond, List, [], ◌∷◌, map, filter, not, Option, Some, None, refl}
use Rattle.std.specs.Prelude.{◌&&◌, nat_lt}
use Rattle.std.specs.List.{list_any}
use Rattle.spec_history.specs.declared.acts.Act.{Act}
use Rattle.spec_history.specs.declared.acts.Operand.{Operand}
use Rattle.spec_history.specs.declared.lines.Line.{Line}
use Rattle.spec_history.specs.declared.lines.Line.TheVariants as lines
use Rattle.spec_ideal.specs.Operations.{volume_changed}
use Rattle.spec_model.specs.Calls as pairs
use Rattle.spec_model.specs.Calls.{admitted, is_sent_again, last_timeout, Admitted}
use Rattle.afs_num.specs.Nodes.{same_node}
use Rattle.afs_num.specs.declared.calls.AfsCallBack.{AfsCallBack}
use Rattle.afs_num.specs.declared.calls.AfsFetchStatus.{AfsFetchStatus}
use Rattle.afs_num.specs.declared.calls.AfsVolSync.{AfsVolSync}
use Rattle.afs_num.specs.declared.calls.FsCall.{FsCall}
use Rattle.afs_num.specs.declared.calls.FsCall.TheVariants as calls
use Rattle.afs_num.specs.declared.calls.FsReply.{FsReply}
use Rattle.afs_num.specs.declared.calls.FsReply.TheVariants as replies
use Rattle.afs_num.specs.declared.histories.Body.TheVariants as bodies
use Rattle.afs_num.specs.declared.histories.ReadBody.{ReadBody}
use Rattle.afs_num.specs.declared.histories.ReadBody.TheVariants as seen
use Rattle.afs_num.specs.declared.histories.ReadSource.TheVariants.{Fetched}
use Rattle.afs_num.specs.declared.location_calls.LocEntry.{LocEntry}
use Rattle.afs_num.specs.declared.messages.Call.TheVariants as ask
use Rattle.afs_num.specs.declared.messages.Carried.{Carried}
use Rattle.afs_num.specs.declared.messages.Carried.TheVariants as carried
use Rattle.afs_num.specs.declared.messages.Message.{Message}
use Rattle.afs_num.specs.declared.messages.Received.TheVariants.{Whole}
use Rattle.afs_num.specs.declared.messages.Reply.TheVariants as tell
use Rattle.afs_num.specs.declared.types.Code.{Code}
use Rattle.afs_num.specs.declared.types.Fid.{Fid}
use Rattle.afs_num.specs.declared.types.Head.{Head}
use Rattle.afs_num.specs.declared.types.Node.{Node}
use Rattle.spec_rows.specs.ClientRow as row
use Rattle.spec_rows.specs.ClientRow.{admits_call, answers_step, asks_where, awaits, begin_row, begins_by, behind_batch, body_told, breaks, call_of, callee_of, calls_again, client_row, counts, dead_code, drop_line, dropped, dropped_after, entries_told, entry_in, cache_entry_told, find_cached, gift_of, with_given, given_up_in, gives_by, gives_up, goes_by, guest_row, has_location, hears, ignores, in_order, is_awaited, stands_below, is_busy_code, is_gone_code, is_older, is_sought, is_spent, is_trusted, knows_place, located, located_by, located_on, look_at, looked, most_busy, most_moved, most_reads, moved_on, put_entries, put_entry, read_lines, refuses, refuses_for_good, runs_carried, seek_timeout_row, seeks_on, sought_by, sought_ends, sought_or, status_look, status_told, takes, takes_bulk, takes_bytes, takes_data, takes_entries, takes_entry, takes_given, takes_list, takes_plain, takes_rights, takes_set, takes_shown, takes_status, takes_stored, timeout_line, timeout_row, tries_again, trusted_in, untrusted_in, volume_asked, walked, walks_on, whole, with_statuses, Look, Walked}
use Rattle.spec_rows.specs.Going.{answers, began, filled, gives_back, next, operand_in, volume_at, with_read, ClientState, Going, Left, Need, Seek}
use Rattle.spec_rows.specs.States.{CacheEntry, Gift, Location, Seat}
use Rattle.spec_rows.specs.Steps.{Step}
use Rattle.law_places.proofs.Copies.{admitted_copies, seated_copies, AdmittedCopies, AllCopies, SeatsCopy}
use Rattle.law_places.proofs.Turning.{AreStill}

-- With these kept replies before it. What it keeps behind it stays as it was in this.
pub record Quiet (seats : List Seat) (s : Step ClientState) : Type 0 where
  pub told : AreStill s.lines
  pub sent : AllCopies s.sent
  pub seats' : SeatsCopy seats → SeatsCopy s.state.seats

abbrev IsFront : (List Line → List Line) → Type 0
IsFront front = (ls : List Line) → AreStill ls → AreStill (front ls)

either_quiet : (t : Bool) (seats : List Seat) (a b : Step ClientState) → Quiet seats a → Quiet seats b → Quiet seats (cond t a b)
either_quiet true seats a b h k = h
either_quiet false seats a b h k = k

pub dropped_still : (me : Node) (es : List CacheEntry) → IsFront (dropped me es)
dropped_still me [] ls h = h
dropped_still me (e ∷ es) ls h = dropped_still me es ls h

looked_still : (me : Node) (looks : List Look) → IsFront (looked me looks)
looked_still me [] ls h = h
looked_still me (l ∷ looks) ls h = looked_still me looks ls h

drops_still : (me : Node) (fs : List Fid) → AreStill (map (drop_line me) fs)
drops_still me [] = refl
drops_still me (f ∷ fs) = drops_still me fs

goes_quiet : (me : Node) (c : ClientState) (front : List Line → List Line) (w : Walked) (need : Need) → IsFront front → Quiet c.seats (goes_by me c front w need)
goes_quiet me c front w (answers n) f = record { told = f _ (looked_still me w.looks _ refl); sent = tt; seats' = λ k. k }
goes_quiet me c front w need f = record { told = f _ (looked_still me w.looks [] refl); sent = (tt, tt); seats' = λ k. k }

walks_quiet : (me : Node) (c : ClientState) (clock : ℕ) (front : List Line → List Line) (act : Going) (cache : List CacheEntry) → IsFront front → Quiet c.seats (walks_on me c clock front act cache)
walks_quiet me c clock front act cache f = let w : Walked = walked (most_reads act) clock act cache in goes_quiet me c front w (next w.act) f

gives_quiet : (me : Node) (c : ClientState) (front : List Line → List Line) (act : Going) (gs : List Gift) → IsFront front → Quiet c.seats (gives_by me c front act gs)
gives_quiet me c front act [] f = record { told = f _ refl; sent = tt; seats' = λ k. k }
gives_quiet me c front act (g ∷ gs) f = record { told = f [] refl; sent = (tt, tt); seats' = λ k. k }

-- ---- an act begins

begins_quiet : (me : Node) (c : ClientState) (clock : ℕ) (front : List Line → List Line) (act : Going) (need : Need) → IsFront front → Quiet c.seats (begins_by me c clock front act need)
begins_quiet me c clock front act gives_back f =
    gives_quiet me (record c { cache = untrusted_in clock c.cache }) (λ ls. front (dropped me (trusted_in clock c.cache) ls)) act (in_order (map gift_of (trusted_in clock c.cache))) (λ ls h. f _ (dropped_still me (trusted_in clock c.cache) ls h))
begins_quiet me c clock front act need f = walks_quiet me c clock front act c.cache f

pub begun_quiet : (me : Node) (c : ClientState) (clock : ℕ) (act : Act) → Quiet c.seats (begin_row me c clock act)
unfolding begin_row
begun_quiet me c clock act = begins_quiet me (record c { busy = 0; moved = 0 }) clock (λ ls. lines.Begin me act ∷ ls) (began c.table act) (next (began c.table act)) (λ ls h. h)

-- ---- replies

again_quiet : (me : Node) (c : ClientState) (place : ℕ) (act : Going) → Quiet c.seats (calls_again me c place act)
again_quiet me c place act = record { told = refl; sent = (tt, tt); seats' = λ k. k }

ignores_quiet : (c : ClientState) (place : ℕ) → Quiet c.seats (ignores c place)
ignores_quiet c place = record { told = refl; sent = tt; seats' = λ k. k }

plain_quiet : (me : Node) (c : ClientState) (place : ℕ) (call : FsCall) → Quiet c.seats (takes_plain me c place call)
plain_quiet me c place call = record { told = dropped_still me (dropped_after call c.cache) _ refl; sent = tt; seats' = λ k. k }

answered_quiet : (me : Node) (c : ClientState) (place : ℕ) (code : Code) → Quiet c.seats (answers_step me c place code)
answered_quiet me c place code = record { told = refl; sent = tt; seats' = λ k. k }

entry_quiet : (me : Node) (c : ClientState) (clock place : ℕ) (act : Going) (e : CacheEntry) (body : ReadBody) → Quiet c.seats (takes_entry me c clock place act e body)
entry_quiet me c clock place act e body =
    either_quiet (is_trusted clock e) c.seats (walks_on me c clock (read_lines me place (look_at Fetched e body)) (with_read e.fid body act) (put_entry c.capacity e c.cache)) (calls_again me c place act)
    (walks_quiet me c clock (read_lines me place (look_at Fetched e body)) (with_read e.fid body act) (put_entry c.capacity e c.cache) (λ ls h. h)) (again_quiet me c place act)

entries_quiet : (me : Node) (c : ClientState) (clock place : ℕ) (act : Going) (es : List CacheEntry) → Quiet c.seats (takes_entries me c clock place act es)
entries_quiet me c clock place act es =
    either_quiet (list_any (λ e. not (is_trusted clock e)) es) c.seats (calls_again me c place act) (walks_on me c clock (λ ls. with_given place (looked me (map status_look es) ls)) (with_statuses es act) (put_entries c.capacity es c.cache)) (again_quiet me c place act)
    (walks_quiet me c clock (λ ls. with_given place (looked me (map status_look es) ls)) (with_statuses es act) (put_entries c.capacity es c.cache) (λ ls h. looked_still me (map status_look es) ls h))

rights_quiet : (me : Node) (c : ClientState) (clock place : ℕ) (act : Going) (f : Fid) (index release : ℕ) (text : List ℕ) → Quiet c.seats (takes_rights me c clock place act f index release text)
rights_quiet me c clock place act f index release text =
    walks_quiet me c clock (λ ls. read_lines me place (record { fid = f; index = index; source = Fetched; body = seen.AccessList text }) (dropped me (filter (is_older f index release) c.cache) ls)) (with_read f (seen.AccessList text) act)
    (filter (λ e. not (is_older f index release e)) c.cache) (λ ls h. dropped_still me (filter (is_older f index release) c.cache) ls h)

bytes_quiet : (me : Node) (c : ClientState) (clock place : ℕ) (f : Fid) (status : AfsFetchStatus) (contents : List ℕ) (call : FsCall) → Quiet c.seats (takes_bytes me c clock place f status contents call)
bytes_quiet me c clock place f status contents call =
    either_quiet c.spoiled c.seats (takes_plain me c place call) (takes_stored me c clock place f status.sync_counter (status_told status) (λ body. Some (bodies.File contents))) (plain_quiet me c place call) (record { told = refl; sent = tt; seats' = λ k. k })

status_quiet : (me : Node) (c : ClientState) (clock place : ℕ) (f : Fid) (status : AfsFetchStatus) (call : FsCall) → Quiet c.seats (takes_status me c clock place f status call)
status_quiet me c clock place f status call =
    either_quiet (not c.spoiled && stands_below clock status.sync_counter (find_cached f c.cache)) c.seats (takes_stored me c clock place f status.sync_counter (status_told status) (λ body. body)) (takes_plain me c place call) (record { told = refl; sent = tt; seats' = λ k. k })
    (plain_quiet me c place call)

data_quiet : (me : Node) (c : ClientState) (clock place : ℕ) (act : Going) (contents : List ℕ) (status : AfsFetchStatus) (callback : AfsCallBack) (sync : AfsVolSync) (call : FsCall) → Quiet c.seats (takes_data me c clock place act contents status callback sync call)
data_quiet me c clock place act contents status callback sync (calls.FetchData f position wanted) = entry_quiet me c clock place act (cache_entry_told c.callee f status callback sync (Some (body_told status.file_type contents))) (seen.Contents (body_told status.file_type contents))
data_quiet me c clock place act contents status callback sync call = plain_quiet me c place call

shown_quiet : (me : Node) (c : ClientState) (clock place : ℕ) (act : Going) (status : AfsFetchStatus) (callback : AfsCallBack) (sync : AfsVolSync) (call : FsCall) → Quiet c.seats (takes_shown me c clock place act status callback sync call)
shown_quiet me c clock place act status callback sync (calls.FetchStatus f) = entry_quiet me c clock place act (cache_entry_told c.callee f status callback sync None) (seen.Status (status_told status))
shown_quiet me c clock place act status callback sync call = plain_quiet me c place call

list_quiet : (me : Node) (c : ClientState) (clock place : ℕ) (act : Going) (text : List ℕ) (status : AfsFetchStatus) (sync : AfsVolSync) (call : FsCall) → Quiet c.seats (takes_list me c clock place act text status sync call)
list_quiet me c clock place act text status sync (calls.FetchAcl f) = rights_quiet me c clock place act f status.sync_counter sync.release text
list_quiet me c clock place act text status sync call = plain_quiet me c place call

set_quiet : (me : Node) (c : ClientState) (clock place : ℕ) (status : AfsFetchStatus) (call : FsCall) → Quiet c.seats (takes_set me c clock place status call)
set_quiet me c clock place status (calls.StoreData f set position wanted file_length contents) = bytes_quiet me c clock place f status contents (calls.StoreData f set position wanted file_length contents)
set_quiet me c clock place status (calls.StoreAcl f acl) = status_quiet me c clock place f status (calls.StoreAcl f acl)
set_quiet me c clock place status (calls.StoreStatus f set) = status_quiet me c clock place f status (calls.StoreStatus f set)
set_quiet me c clock place status call = plain_quiet me c place call

bulk_quiet : (me : Node) (c : ClientState) (clock place : ℕ) (act : Going) (statuses : List AfsFetchStatus) (callbacks : List AfsCallBack) (sync : AfsVolSync) (call : FsCall) → Quiet c.seats (takes_bulk me c clock place act statuses callbacks sync call)
bulk_quiet me c clock place act statuses callbacks sync (calls.BulkStatus fids) = entries_quiet me c clock place act (entries_told c.callee sync fids statuses callbacks)
bulk_quiet me c clock place act statuses callbacks sync call = plain_quiet me c place call

back_quiet : (me : Node) (c : ClientState) (place : ℕ) (act : Going) (call : FsCall) → Quiet c.seats (takes_given me c place act call)
back_quiet me c place act (calls.GiveUpCallBacks fids callbacks) = gives_quiet me c (with_given place) act (behind_batch c.gifts) (λ ls h. h)
back_quiet me c place act call = plain_quiet me c place call

takes_quiet : (me : Node) (c : ClientState) (clock place : ℕ) (act : Going) (call : FsCall) (reply : FsReply) → Quiet c.seats (takes me c clock place act call reply)
takes_quiet me c clock place act call (replies.FetchData contents status callback sync) = data_quiet me c clock place act contents status callback sync call
takes_quiet me c clock place act call (replies.FetchAcl text status sync) = list_quiet me c clock place act text status sync call
takes_quiet me c clock place act call (replies.FetchStatus status callback sync) = shown_quiet me c clock place act status callback sync call
takes_quiet me c clock place act call (replies.BulkStatus statuses callbacks sync) = bulk_quiet me c clock place act statuses callbacks sync call
takes_quiet me c clock place act call (replies.StoreData status sync) = set_quiet me c clock place status call
takes_quiet me c clock place act call (replies.StoreAcl status sync) = set_quiet me c clock place status call
takes_quiet me c clock place act call (replies.StoreStatus status sync) = set_quiet me c clock place status call
takes_quiet me c clock place act call replies.GiveUpCallBacks = back_quiet me c place act call
takes_quiet me c clock place act call reply = plain_quiet me c place call

-- ---- refusals

where_quiet : (me : Node) (c : ClientState) (place : ℕ) (act : Going) (code : Code) (o : Option Operand) → Quiet c.seats (asks_where me c place act code o)
where_quiet me c place act code None = answered_quiet me c place code
where_quiet me c place act code (Some o) = record { told = refl; sent = (tt, tt); seats' = λ k. k }

refuses_quiet : (me : Node) (c : ClientState) (place : ℕ) (act : Going) (code : Code) → Quiet c.seats (refuses me c place act code)
refuses_quiet me c place act code =
    either_quiet (is_busy_code code && nat_lt c.busy most_busy) c.seats (calls_again me (record c { busy = c.busy + 1 }) place act) (refuses_for_good me c place act code) (record { told = refl; sent = (tt, tt); seats' = λ k. k })
    (either_quiet (is_gone_code code && nat_lt c.moved most_moved) c.seats (asks_where me c place act code (operand_in act (volume_asked (call_of c act)))) (answers_step me c place code) (where_quiet me c place act code (operand_in act (volume_asked (call_of c act)))) (answered_quiet me c place code))

counts_quiet : (me : Node) (c : ClientState) (clock place : ℕ) (act : Going) (head : Head) (x : Carried) → Quiet c.seats (counts me c clock place act head x)
counts_quiet me c clock place act head (carried.Call user call) = ignores_quiet c place
counts_quiet me c clock place act head (carried.Refusal code) = either_quiet (is_spent c act) c.seats (calls_again me c place act) (refuses me c place act code) (again_quiet me c place act) (refuses_quiet me c place act code)
counts_quiet me c clock place act head (carried.Reply (tell.File reply)) = either_quiet (is_spent c act) c.seats (calls_again me c place act) (takes me c clock place act (call_of c act) reply) (again_quiet me c place act) (takes_quiet me c clock place act (call_of c act) reply)
counts_quiet me c clock place act head (carried.Reply reply) = ignores_quiet c place
counts_quiet me c clock place act head carried.Notice = record { told = refl; sent = (tt, tt); seats' = λ k. k }

awaits_quiet : (me : Node) (c : ClientState) (clock place : ℕ) (head : Head) (x : Carried) (o : Option Going) → Quiet c.seats (awaits me c clock place head x o)
awaits_quiet me c clock place head x None = ignores_quiet c place
awaits_quiet me c clock place head x (Some act) = either_quiet (is_awaited c act head) c.seats (counts me c clock place act head x) (ignores c place) (counts_quiet me c clock place act head x) (ignores_quiet c place)

-- ---- calls of servers

replies_quiet : (c : ClientState) (place : ℕ) (head : Head) (ls : List Line) (reply : FsReply) → AreStill ls → Quiet c.seats (row.replies_step c place head ls (row.reply_carried reply))
replies_quiet c place head ls reply h = record { told = h; sent = (tt, tt); seats' = λ k. seated_copies _ c.seats tt k }

breaks_quiet : (me : Node) (c : ClientState) (place : ℕ) (head : Head) (call : FsCall) → Quiet c.seats (breaks me c place head call)
breaks_quiet me c place head (calls.CallBack fs callbacks) = record { told = drops_still me fs; sent = (tt, tt); seats' = λ k. seated_copies _ c.seats tt k }
breaks_quiet me c place head calls.InitCallBackState = record { told = refl; sent = (tt, tt); seats' = λ k. seated_copies _ c.seats tt k }
breaks_quiet me c place head calls.Probe = replies_quiet c place head [] replies.Probe refl
breaks_quiet me c place head call = record { told = refl; sent = (tt, tt); seats' = λ k. seated_copies _ c.seats tt k }

runs_quiet : (me : Node) (c : ClientState) (place : ℕ) (head : Head) (x : Carried) → Quiet c.seats (runs_carried me c place head x)
runs_quiet me c place head (carried.Call user (ask.File call)) = breaks_quiet me c place head call
runs_quiet me c place head (carried.Call user call) = record { told = refl; sent = (tt, tt); seats' = λ k. seated_copies _ c.seats tt k }
runs_quiet me c place head x = ignores_quiet c place

admits_quiet : (me : Node) (c : ClientState) (place : ℕ) (head : Head) (x : Carried) (o : Admitted Message) → AdmittedCopies o → Quiet c.seats (admits_call me c place head (whole head x) o)
admits_quiet me c place head x pairs.runs h = runs_quiet me c place head x
admits_quiet me c place head x (pairs.kept reply) h = record { told = refl; sent = (h, tt); seats' = λ k. k }
admits_quiet me c place head x pairs.in_progress h = ignores_quiet c place
admits_quiet me c place head x pairs.older h = ignores_quiet c place
admits_quiet me c place head x (pairs.wrong_boot boot) h = record { told = refl; sent = (tt, tt); seats' = λ k. k }

hears_quiet : (me : Node) (c : ClientState) (clock place : ℕ) (head : Head) (x : Carried) → SeatsCopy c.seats → Quiet c.seats (hears me c clock place head x)
hears_quiet me c clock place head (carried.Call user call) h = admits_quiet me c place head (carried.Call user call) (admitted c.epoch c.seats head) (admitted_copies c.epoch c.seats head h)
hears_quiet me c clock place head x h = awaits_quiet me c clock place head x c.running

told_quiet : (me : Node) (c : ClientState) (clock place : ℕ) (m : Message) → SeatsCopy c.seats → Quiet c.seats (client_row me c clock place (Whole m))
unfolding client_row
told_quiet me c clock place m h = either_quiet (same_node m.head.to me) c.seats (hears me c clock place m.head m.carried) (ignores c place) (hears_quiet me c clock place m.head m.carried h) (ignores_quiet c place)

-- ---- answers of the location database

ended_quiet : (me : Node) (c : ClientState) (place : ℕ) (code : Code) → Quiet c.seats (sought_ends me c (with_given place) code)
ended_quiet me c place code = record { told = refl; sent = tt; seats' = λ k. k }

on_quiet : (me : Node) (c : ClientState) (clock place : ℕ) (act : Going) (o : Option ℕ) → Quiet c.seats (located_on me c clock place act o)
on_quiet me c clock place act None = ended_quiet me c place _
on_quiet me c clock place act (Some id) = walks_quiet me c clock (with_given place) (filled c.table act) c.cache (λ ls h. h)

moved_quiet : (me : Node) (c : ClientState) (place : ℕ) (act : Going) (left : Left) (o : Option ℕ) → Quiet c.seats (moved_on me c place act left o)
moved_quiet me c place act left None = ended_quiet me c place _
moved_quiet me c place act left (Some id) = either_quiet (same_node (callee_of c act) left.server) c.seats (sought_ends me c (with_given place) left.code) (calls_again me c place act) (ended_quiet me c place left.code) (again_quiet me c place act)

located_quiet : (me : Node) (c : ClientState) (clock place : ℕ) (k : Seek) (l : Location) (o : Option Left) → Quiet c.seats (located me c clock place k l o)
located_quiet me c clock place k l None = on_quiet me (knows_place l c) clock place k.act (volume_at (knows_place l c).table k.operand)
located_quiet me c clock place k l (Some left) =
    either_quiet (has_location l c.table) c.seats (sought_ends me c (with_given place) left.code) (moved_on me (knows_place l c) place k.act left (volume_at (knows_place l c).table k.operand)) (ended_quiet me c place left.code)
    (moved_quiet me (knows_place l c) place k.act left (volume_at (knows_place l c).table k.operand))

found_quiet : (me : Node) (c : ClientState) (clock place : ℕ) (k : Seek) (o : Option LocEntry) → Quiet c.seats (located_by me c clock place k o)
found_quiet me c clock place k None = ignores_quiet c place
found_quiet me c clock place k (Some e) = located_quiet me c clock place k e k.left

sought_quiet : (me : Node) (c : ClientState) (clock place : ℕ) (k : Seek) (head : Head) (x : Carried) → Quiet c.seats (sought_by me c clock place k head x)
sought_quiet me c clock place k head (carried.Refusal code) = ended_quiet me c place code
sought_quiet me c clock place k head (carried.Reply (tell.Location reply)) = found_quiet me c clock place k (entry_in reply)
sought_quiet me c clock place k head carried.Notice = record { told = refl; sent = (tt, tt); seats' = λ k. k }
sought_quiet me c clock place k head x = ignores_quiet c place

guest_by : (me : Node) (c : ClientState) (clock place : ℕ) (m : Message) (o : Option Seek) → SeatsCopy c.seats → Quiet c.seats (sought_or me c clock place m o)
guest_by me c clock place m None h = told_quiet me c clock place m h
guest_by me c clock place m (Some k) h = either_quiet (is_sought me c k m.head m.carried) c.seats (sought_by me c clock place k m.head m.carried) (client_row me c clock place (Whole m)) (sought_quiet me c clock place k m.head m.carried) (told_quiet me c clock place m h)

pub guest_quiet : (me : Node) (c : ClientState) (clock place : ℕ) (m : Message) → SeatsCopy c.seats → Quiet c.seats (guest_row me c clock place (Whole m))
guest_quiet me c clock place m h = guest_by me c clock place m c.seeking h

-- ---- timeouts

pub waited_quiet : (me : Node) (c : ClientState) (act : Going) → Quiet c.seats (timeout_row me c act)
waited_quiet me c act =
    either_quiet (is_sent_again c.tries) c.seats (tries_again me c act) (gives_up me c (call_of c act)) (record { told = refl; sent = (tt, tt); seats' = λ k. k })
    (record { told = dropped_still me (given_up_in (volume_changed (call_of c act)) c.cache) (lines.Answer me dead_code ∷ []) refl; sent = tt; seats' = λ k. k })

pub missed_quiet : (me : Node) (c : ClientState) (k : Seek) → Quiet c.seats (seek_timeout_row me c k)
missed_quiet me c k =
    either_quiet (is_sent_again c.tries) c.seats (seeks_on me c k) (sought_ends me c (λ ls. timeout_line me c last_timeout ∷ ls) dead_code) (record { told = refl; sent = (tt, tt); seats' = λ k. k }) (record { told = refl; sent = tt; seats' = λ k. k })
