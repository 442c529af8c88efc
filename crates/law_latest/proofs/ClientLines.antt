-- The steps of clients tell lines of clients alone.
use Rattle.std.proofs.Common.{◌≡◌, ℕ, ◌+◌, Bool, true, false, cond, List, [], ◌∷◌, map, filter, not, Option, Some, None, refl}
use Rattle.std.specs.Prelude.{◌&&◌, nat_lt}
use Rattle.std.specs.List.{list_any}
use Rattle.spec_history.specs.declared.acts.Act.{Act}
use Rattle.spec_history.specs.declared.acts.Operand.{Operand}
use Rattle.spec_history.specs.declared.lines.Line.{Line}
use Rattle.spec_history.specs.declared.lines.Line.TheVariants as lines
use Rattle.spec_ideal.specs.Operations.{volume_changed}
use Rattle.spec_model.specs.Calls as pairs
use Rattle.spec_model.specs.Calls.{admitted, is_sent_again, last_timeout, Admitted}
use Rattle.afs_num.specs.Nodes.{same_node}
use Rattle.afs_num.specs.declared.calls.AfsCallBack.{AfsCallBack}
use Rattle.afs_num.specs.declared.calls.AfsFetchStatus.{AfsFetchStatus}
use Rattle.afs_num.specs.declared.calls.AfsVolSync.{AfsVolSync}
use Rattle.afs_num.specs.declared.calls.FsCall.{FsCall}
use Rattle.afs_num.specs.declared.calls.FsCall.TheVariants as calls
use Rattle.afs_num.specs.declared.calls.FsReply.{FsReply}
use Rattle.afs_num.specs.declared.calls.FsReply.TheVariants as replies
use Rattle.afs_num.specs.declared.histories.Body.TheVariants as bodies
use Rattle.afs_num.specs.declared.histories.ReadBody.{ReadBody}
use Rattle.afs_num.specs.declared.histories.ReadBody.TheVariants as seen
use Rattle.afs_num.specs.declared.histories.ReadSource.TheVariants.{Fetched}
use Rattle.afs_num.specs.declared.location_calls.LocEntry.{LocEntry}
use Rattle.afs_num.specs.declared.messages.Call.TheVariants as ask
use Rattle.afs_num.specs.declared.messages.Carried.{Carried}
use Rattle.afs_num.specs.declared.messages.Carried.TheVariants as carried
use Rattle.afs_num.specs.declared.messages.Message.{Message}
use Rattle.afs_num.specs.declared.messages.Received.TheVariants.{Whole}
use Rattle.afs_num.specs.declared.messages.Reply.TheVariants as tell
use Rattle.afs_num.specs.declared.types.Code.{Code}
use Rattle.afs_num.specs.declared.types.Fid.{Fid}
use Rattle.afs_num.specs.declared.types.Head.{Head}
use Rattle.afs_num.specs.declared.types.Node.{Node}
use Rattle.spec_rows.specs.ClientRow as row
use Rattle.spec_rows.specs.ClientRow.{admits_call, answers_step, asks_where, awaits, begin_row, begins_by, behind_batch, body_told, breaks, call_of, callee_of, calls_again, client_row, counts, dead_code, drop_line, dropped, dropped_after, entries_told, entry_in, cache_entry_told, find_cached, gift_of, with_given, given_up_in, gives_by, gives_up, goes_by, guest_row, has_location, hears, ignores, in_order, is_awaited, stands_below, is_busy_code, is_gone_code, is_older, is_sought, is_spent, is_trusted, knows_place, located, located_by, located_on, look_at, looked, most_busy, most_moved, most_reads, moved_on, put_entries, put_entry, read_lines, refuses, refuses_for_good, runs_carried, seek_timeout_row, seeks_on, sought_by, sought_ends, sought_or, status_look, status_told, takes, takes_bulk, takes_bytes, takes_data, takes_entries, takes_entry, takes_given, takes_list, takes_plain, takes_rights, takes_set, takes_shown, takes_status, takes_stored, timeout_line, timeout_row, tries_again, trusted_in, untrusted_in, volume_asked, walked, walks_on, whole, with_statuses, Look, Walked}
use Rattle.spec_rows.specs.Going.{answers, began, filled, gives_back, next, operand_in, volume_at, with_read, ClientState, Going, Left, Need, Seek}
use Rattle.spec_rows.specs.States.{CacheEntry, Gift, Location}
use Rattle.spec_rows.specs.Steps.{Step}
use Rattle.law_places.proofs.Turning.{all_lines}

-- a line that clients tell in their steps; a crash and a restart are no steps
abbrev pub client_tells : Line → Bool
client_tells (lines.Begin c act) = true
client_tells (lines.Given place) = true
client_tells (lines.Read c f index source body) = true
client_tells (lines.Answer c code) = true
client_tells (lines.Timeout c callee epoch number count) = true
client_tells (lines.Drop c f) = true
client_tells (lines.DropAll c server) = true
client_tells (lines.Older c offered known) = true
client_tells l = false

abbrev pub AreOfClient : List Line → Type 0
AreOfClient ls = all_lines client_tells ls ≡ true

pub record Tells (s : Step ClientState) : Type 0 where
  pub told : AreOfClient s.lines

abbrev IsFront : (List Line → List Line) → Type 0
IsFront front = (ls : List Line) → AreOfClient ls → AreOfClient (front ls)

either_tells : (t : Bool) (a b : Step ClientState) → Tells a → Tells b → Tells (cond t a b)
either_tells true a b h k = h
either_tells false a b h k = k

pub dropped_of_client : (me : Node) (es : List CacheEntry) → IsFront (dropped me es)
dropped_of_client me [] ls h = h
dropped_of_client me (e ∷ es) ls h = dropped_of_client me es ls h

looked_of_client : (me : Node) (looks : List Look) → IsFront (looked me looks)
looked_of_client me [] ls h = h
looked_of_client me (l ∷ looks) ls h = looked_of_client me looks ls h

drops_of_client : (me : Node) (fs : List Fid) → AreOfClient (map (drop_line me) fs)
drops_of_client me [] = refl
drops_of_client me (f ∷ fs) = drops_of_client me fs

goes_tells : (me : Node) (c : ClientState) (front : List Line → List Line) (w : Walked) (need : Need) → IsFront front → Tells (goes_by me c front w need)
goes_tells me c front w (answers n) f = record { told = f _ (looked_of_client me w.looks _ refl) }
goes_tells me c front w need f = record { told = f _ (looked_of_client me w.looks [] refl) }

walks_tells : (me : Node) (c : ClientState) (clock : ℕ) (front : List Line → List Line) (act : Going) (cache : List CacheEntry) → IsFront front → Tells (walks_on me c clock front act cache)
walks_tells me c clock front act cache f = let w : Walked = walked (most_reads act) clock act cache in goes_tells me c front w (next w.act) f

gives_tells : (me : Node) (c : ClientState) (front : List Line → List Line) (act : Going) (gs : List Gift) → IsFront front → Tells (gives_by me c front act gs)
gives_tells me c front act [] f = record { told = f _ refl }
gives_tells me c front act (g ∷ gs) f = record { told = f [] refl }

-- ---- an act begins

begins_tells : (me : Node) (c : ClientState) (clock : ℕ) (front : List Line → List Line) (act : Going) (need : Need) → IsFront front → Tells (begins_by me c clock front act need)
begins_tells me c clock front act gives_back f =
    gives_tells me (record c { cache = untrusted_in clock c.cache }) (λ ls. front (dropped me (trusted_in clock c.cache) ls)) act (in_order (map gift_of (trusted_in clock c.cache))) (λ ls h. f _ (dropped_of_client me (trusted_in clock c.cache) ls h))
begins_tells me c clock front act need f = walks_tells me c clock front act c.cache f

pub begun_tells : (me : Node) (c : ClientState) (clock : ℕ) (act : Act) → Tells (begin_row me c clock act)
unfolding begin_row
begun_tells me c clock act = begins_tells me (record c { busy = 0; moved = 0 }) clock (λ ls. lines.Begin me act ∷ ls) (began c.table act) (next (began c.table act)) (λ ls h. h)

-- ---- replies

again_tells : (me : Node) (c : ClientState) (place : ℕ) (act : Going) → Tells (calls_again me c place act)
again_tells me c place act = record { told = refl }

ignores_tells : (c : ClientState) (place : ℕ) → Tells (ignores c place)
ignores_tells c place = record { told = refl }

plain_tells : (me : Node) (c : ClientState) (place : ℕ) (call : FsCall) → Tells (takes_plain me c place call)
plain_tells me c place call = record { told = dropped_of_client me (dropped_after call c.cache) _ refl }

answered_tells : (me : Node) (c : ClientState) (place : ℕ) (code : Code) → Tells (answers_step me c place code)
answered_tells me c place code = record { told = refl }

entry_tells : (me : Node) (c : ClientState) (clock place : ℕ) (act : Going) (e : CacheEntry) (body : ReadBody) → Tells (takes_entry me c clock place act e body)
entry_tells me c clock place act e body =
    either_tells (is_trusted clock e) (walks_on me c clock (read_lines me place (look_at Fetched e body)) (with_read e.fid body act) (put_entry c.capacity e c.cache)) (calls_again me c place act)
    (walks_tells me c clock (read_lines me place (look_at Fetched e body)) (with_read e.fid body act) (put_entry c.capacity e c.cache) (λ ls h. h)) (again_tells me c place act)

entries_tells : (me : Node) (c : ClientState) (clock place : ℕ) (act : Going) (es : List CacheEntry) → Tells (takes_entries me c clock place act es)
entries_tells me c clock place act es =
    either_tells (list_any (λ e. not (is_trusted clock e)) es) (calls_again me c place act) (walks_on me c clock (λ ls. with_given place (looked me (map status_look es) ls)) (with_statuses es act) (put_entries c.capacity es c.cache)) (again_tells me c place act)
    (walks_tells me c clock (λ ls. with_given place (looked me (map status_look es) ls)) (with_statuses es act) (put_entries c.capacity es c.cache) (λ ls h. looked_of_client me (map status_look es) ls h))

rights_tells : (me : Node) (c : ClientState) (clock place : ℕ) (act : Going) (f : Fid) (index release : ℕ) (text : List ℕ) → Tells (takes_rights me c clock place act f index release text)
rights_tells me c clock place act f index release text =
    walks_tells me c clock (λ ls. read_lines me place (record { fid = f; index = index; source = Fetched; body = seen.AccessList text }) (dropped me (filter (is_older f index release) c.cache) ls)) (with_read f (seen.AccessList text) act)
    (filter (λ e. not (is_older f index release e)) c.cache) (λ ls h. dropped_of_client me (filter (is_older f index release) c.cache) ls h)

bytes_tells : (me : Node) (c : ClientState) (clock place : ℕ) (f : Fid) (status : AfsFetchStatus) (contents : List ℕ) (call : FsCall) → Tells (takes_bytes me c clock place f status contents call)
bytes_tells me c clock place f status contents call =
    either_tells c.spoiled (takes_plain me c place call) (takes_stored me c clock place f status.sync_counter (status_told status) (λ body. Some (bodies.File contents))) (plain_tells me c place call) (record { told = refl })

status_tells : (me : Node) (c : ClientState) (clock place : ℕ) (f : Fid) (status : AfsFetchStatus) (call : FsCall) → Tells (takes_status me c clock place f status call)
status_tells me c clock place f status call =
    either_tells (not c.spoiled && stands_below clock status.sync_counter (find_cached f c.cache)) (takes_stored me c clock place f status.sync_counter (status_told status) (λ body. body)) (takes_plain me c place call) (record { told = refl })
    (plain_tells me c place call)

data_tells : (me : Node) (c : ClientState) (clock place : ℕ) (act : Going) (contents : List ℕ) (status : AfsFetchStatus) (callback : AfsCallBack) (sync : AfsVolSync) (call : FsCall) → Tells (takes_data me c clock place act contents status callback sync call)
data_tells me c clock place act contents status callback sync (calls.FetchData f position wanted) = entry_tells me c clock place act (cache_entry_told c.callee f status callback sync (Some (body_told status.file_type contents))) (seen.Contents (body_told status.file_type contents))
data_tells me c clock place act contents status callback sync call = plain_tells me c place call

shown_tells : (me : Node) (c : ClientState) (clock place : ℕ) (act : Going) (status : AfsFetchStatus) (callback : AfsCallBack) (sync : AfsVolSync) (call : FsCall) → Tells (takes_shown me c clock place act status callback sync call)
shown_tells me c clock place act status callback sync (calls.FetchStatus f) = entry_tells me c clock place act (cache_entry_told c.callee f status callback sync None) (seen.Status (status_told status))
shown_tells me c clock place act status callback sync call = plain_tells me c place call

list_tells : (me : Node) (c : ClientState) (clock place : ℕ) (act : Going) (text : List ℕ) (status : AfsFetchStatus) (sync : AfsVolSync) (call : FsCall) → Tells (takes_list me c clock place act text status sync call)
list_tells me c clock place act text status sync (calls.FetchAcl f) = rights_tells me c clock place act f status.sync_counter sync.release text
list_tells me c clock place act text status sync call = plain_tells me c place call

set_tells : (me : Node) (c : ClientState) (clock place : ℕ) (status : AfsFetchStatus) (call : FsCall) → Tells (takes_set me c clock place status call)
set_tells me c clock place status (calls.StoreData f set position wanted file_length contents) = bytes_tells me c clock place f status contents (calls.StoreData f set position wanted file_length contents)
set_tells me c clock place status (calls.StoreAcl f acl) = status_tells me c clock place f status (calls.StoreAcl f acl)
set_tells me c clock place status (calls.StoreStatus f set) = status_tells me c clock place f status (calls.StoreStatus f set)
set_tells me c clock place status call = plain_tells me c place call

bulk_tells : (me : Node) (c : ClientState) (clock place : ℕ) (act : Going) (statuses : List AfsFetchStatus) (callbacks : List AfsCallBack) (sync : AfsVolSync) (call : FsCall) → Tells (takes_bulk me c clock place act statuses callbacks sync call)
bulk_tells me c clock place act statuses callbacks sync (calls.BulkStatus fids) = entries_tells me c clock place act (entries_told c.callee sync fids statuses callbacks)
bulk_tells me c clock place act statuses callbacks sync call = plain_tells me c place call

back_tells : (me : Node) (c : ClientState) (place : ℕ) (act : Going) (call : FsCall) → Tells (takes_given me c place act call)
back_tells me c place act (calls.GiveUpCallBacks fids callbacks) = gives_tells me c (with_given place) act (behind_batch c.gifts) (λ ls h. h)
back_tells me c place act call = plain_tells me c place call

takes_tells : (me : Node) (c : ClientState) (clock place : ℕ) (act : Going) (call : FsCall) (reply : FsReply) → Tells (takes me c clock place act call reply)
takes_tells me c clock place act call (replies.FetchData contents status callback sync) = data_tells me c clock place act contents status callback sync call
takes_tells me c clock place act call (replies.FetchAcl text status sync) = list_tells me c clock place act text status sync call
takes_tells me c clock place act call (replies.FetchStatus status callback sync) = shown_tells me c clock place act status callback sync call
takes_tells me c clock place act call (replies.BulkStatus statuses callbacks sync) = bulk_tells me c clock place act statuses callbacks sync call
takes_tells me c clock place act call (replies.StoreData status sync) = set_tells me c clock place status call
takes_tells me c clock place act call (replies.StoreAcl status sync) = set_tells me c clock place status call
takes_tells me c clock place act call (replies.StoreStatus status sync) = set_tells me c clock place status call
takes_tells me c clock place act call replies.GiveUpCallBacks = back_tells me c place act call
takes_tells me c clock place act call reply = plain_tells me c place call

-- ---- refusals

where_tells : (me : Node) (c : ClientState) (place : ℕ) (act : Going) (code : Code) (o : Option Operand) → Tells (asks_where me c place act code o)
where_tells me c place act code None = answered_tells me c place code
where_tells me c place act code (Some o) = record { told = refl }

refuses_tells : (me : Node) (c : ClientState) (place : ℕ) (act : Going) (code : Code) → Tells (refuses me c place act code)
refuses_tells me c place act code =
    either_tells (is_busy_code code && nat_lt c.busy most_busy) (calls_again me (record c { busy = c.busy + 1 }) place act) (refuses_for_good me c place act code) (record { told = refl })
    (either_tells (is_gone_code code && nat_lt c.moved most_moved) (asks_where me c place act code (operand_in act (volume_asked (call_of c act)))) (answers_step me c place code) (where_tells me c place act code (operand_in act (volume_asked (call_of c act)))) (answered_tells me c place code))

counts_tells : (me : Node) (c : ClientState) (clock place : ℕ) (act : Going) (head : Head) (x : Carried) → Tells (counts me c clock place act head x)
counts_tells me c clock place act head (carried.Call user call) = ignores_tells c place
counts_tells me c clock place act head (carried.Refusal code) = either_tells (is_spent c act) (calls_again me c place act) (refuses me c place act code) (again_tells me c place act) (refuses_tells me c place act code)
counts_tells me c clock place act head (carried.Reply (tell.File reply)) = either_tells (is_spent c act) (calls_again me c place act) (takes me c clock place act (call_of c act) reply) (again_tells me c place act) (takes_tells me c clock place act (call_of c act) reply)
counts_tells me c clock place act head (carried.Reply reply) = ignores_tells c place
counts_tells me c clock place act head carried.Notice = record { told = refl }

awaits_tells : (me : Node) (c : ClientState) (clock place : ℕ) (head : Head) (x : Carried) (o : Option Going) → Tells (awaits me c clock place head x o)
awaits_tells me c clock place head x None = ignores_tells c place
awaits_tells me c clock place head x (Some act) = either_tells (is_awaited c act head) (counts me c clock place act head x) (ignores c place) (counts_tells me c clock place act head x) (ignores_tells c place)

-- ---- calls of servers

replies_tells : (c : ClientState) (place : ℕ) (head : Head) (ls : List Line) (reply : FsReply) → AreOfClient ls → Tells (row.replies_step c place head ls (row.reply_carried reply))
replies_tells c place head ls reply h = record { told = h }

breaks_tells : (me : Node) (c : ClientState) (place : ℕ) (head : Head) (call : FsCall) → Tells (breaks me c place head call)
breaks_tells me c place head (calls.CallBack fs callbacks) = record { told = drops_of_client me fs }
breaks_tells me c place head calls.InitCallBackState = record { told = refl }
breaks_tells me c place head calls.Probe = replies_tells c place head [] replies.Probe refl
breaks_tells me c place head call = record { told = refl }

runs_tells : (me : Node) (c : ClientState) (place : ℕ) (head : Head) (x : Carried) → Tells (runs_carried me c place head x)
runs_tells me c place head (carried.Call user (ask.File call)) = breaks_tells me c place head call
runs_tells me c place head (carried.Call user call) = record { told = refl }
runs_tells me c place head x = ignores_tells c place

admits_tells : (me : Node) (c : ClientState) (place : ℕ) (head : Head) (x : Carried) (o : Admitted Message) → Tells (admits_call me c place head (whole head x) o)
admits_tells me c place head x pairs.runs = runs_tells me c place head x
admits_tells me c place head x (pairs.kept reply) = record { told = refl }
admits_tells me c place head x pairs.in_progress = ignores_tells c place
admits_tells me c place head x pairs.older = ignores_tells c place
admits_tells me c place head x (pairs.wrong_boot boot) = record { told = refl }

hears_tells : (me : Node) (c : ClientState) (clock place : ℕ) (head : Head) (x : Carried) → Tells (hears me c clock place head x)
hears_tells me c clock place head (carried.Call user call) = admits_tells me c place head (carried.Call user call) (admitted c.epoch c.seats head)
hears_tells me c clock place head x = awaits_tells me c clock place head x c.running

told_tells : (me : Node) (c : ClientState) (clock place : ℕ) (m : Message) → Tells (client_row me c clock place (Whole m))
unfolding client_row
told_tells me c clock place m = either_tells (same_node m.head.to me) (hears me c clock place m.head m.carried) (ignores c place) (hears_tells me c clock place m.head m.carried) (ignores_tells c place)

-- ---- answers of the location database

ended_tells : (me : Node) (c : ClientState) (place : ℕ) (code : Code) → Tells (sought_ends me c (with_given place) code)
ended_tells me c place code = record { told = refl }

on_tells : (me : Node) (c : ClientState) (clock place : ℕ) (act : Going) (o : Option ℕ) → Tells (located_on me c clock place act o)
on_tells me c clock place act None = ended_tells me c place _
on_tells me c clock place act (Some id) = walks_tells me c clock (with_given place) (filled c.table act) c.cache (λ ls h. h)

moved_tells : (me : Node) (c : ClientState) (place : ℕ) (act : Going) (left : Left) (o : Option ℕ) → Tells (moved_on me c place act left o)
moved_tells me c place act left None = ended_tells me c place _
moved_tells me c place act left (Some id) = either_tells (same_node (callee_of c act) left.server) (sought_ends me c (with_given place) left.code) (calls_again me c place act) (ended_tells me c place left.code) (again_tells me c place act)

located_tells : (me : Node) (c : ClientState) (clock place : ℕ) (k : Seek) (l : Location) (o : Option Left) → Tells (located me c clock place k l o)
located_tells me c clock place k l None = on_tells me (knows_place l c) clock place k.act (volume_at (knows_place l c).table k.operand)
located_tells me c clock place k l (Some left) =
    either_tells (has_location l c.table) (sought_ends me c (with_given place) left.code) (moved_on me (knows_place l c) place k.act left (volume_at (knows_place l c).table k.operand)) (ended_tells me c place left.code)
    (moved_tells me (knows_place l c) place k.act left (volume_at (knows_place l c).table k.operand))

found_tells : (me : Node) (c : ClientState) (clock place : ℕ) (k : Seek) (o : Option LocEntry) → Tells (located_by me c clock place k o)
found_tells me c clock place k None = ignores_tells c place
found_tells me c clock place k (Some e) = located_tells me c clock place k e k.left

sought_tells : (me : Node) (c : ClientState) (clock place : ℕ) (k : Seek) (head : Head) (x : Carried) → Tells (sought_by me c clock place k head x)
sought_tells me c clock place k head (carried.Refusal code) = ended_tells me c place code
sought_tells me c clock place k head (carried.Reply (tell.Location reply)) = found_tells me c clock place k (entry_in reply)
sought_tells me c clock place k head carried.Notice = record { told = refl }
sought_tells me c clock place k head x = ignores_tells c place

guest_by : (me : Node) (c : ClientState) (clock place : ℕ) (m : Message) (o : Option Seek) → Tells (sought_or me c clock place m o)
guest_by me c clock place m None = told_tells me c clock place m
guest_by me c clock place m (Some k) = either_tells (is_sought me c k m.head m.carried) (sought_by me c clock place k m.head m.carried) (client_row me c clock place (Whole m)) (sought_tells me c clock place k m.head m.carried) (told_tells me c clock place m)

pub guest_tells : (me : Node) (c : ClientState) (clock place : ℕ) (m : Message) → Tells (guest_row me c clock place (Whole m))
guest_tells me c clock place m = guest_by me c clock place m c.seeking

-- ---- timeouts

pub waited_tells : (me : Node) (c : ClientState) (act : Going) → Tells (timeout_row me c act)
waited_tells me c act =
    either_tells (is_sent_again c.tries) (tries_again me c act) (gives_up me c (call_of c act)) (record { told = refl })
    (record { told = dropped_of_client me (given_up_in (volume_changed (call_of c act)) c.cache) (lines.Answer me dead_code ∷ []) refl })

pub missed_tells : (me : Node) (c : ClientState) (k : Seek) → Tells (seek_timeout_row me c k)
missed_tells me c k =
    either_tells (is_sent_again c.tries) (seeks_on me c k) (sought_ends me c (λ ls. timeout_line me c last_timeout ∷ ls) dead_code) (record { told = refl }) (record { told = refl })
