-- What a step of a client leaves: its user, how many entries it may hold and its epoch stay; and it draws one number at most.
use Rattle.std.proofs.Common.{◌≡◌, ◌≤◌, ◌+◌, ℕ, Bool, true, false, cond, not, ◌&&◌, ◌||◌, List, [], ◌∷◌, map, filter, Option, Some, None, Result, Ok, Err, refl, ap, ◌∙◌, arith}
use Rattle.std.specs.Prelude.{nat_lt, OnOk}
use Rattle.std.specs.List.{list_any}
use Rattle.afs_num.specs.Nodes.{same_node}
use Rattle.afs_num.specs.declared.types.Code.{Code}
use Rattle.afs_num.specs.declared.types.Fid.{Fid}
use Rattle.afs_num.specs.declared.types.Head.{Head}
use Rattle.afs_num.specs.declared.types.Node.{Node}
use Rattle.afs_num.specs.declared.calls.AfsCallBack.{AfsCallBack}
use Rattle.afs_num.specs.declared.calls.AfsFetchStatus.{AfsFetchStatus}
use Rattle.afs_num.specs.declared.calls.AfsVolSync.{AfsVolSync}
use Rattle.afs_num.specs.declared.calls.FsCall.{FsCall}
use Rattle.afs_num.specs.declared.calls.FsCall.TheVariants as calls
use Rattle.afs_num.specs.declared.calls.FsReply.{FsReply}
use Rattle.afs_num.specs.declared.calls.FsReply.TheVariants as replies
use Rattle.afs_num.specs.declared.messages.Call.TheVariants as ask
use Rattle.afs_num.specs.declared.messages.Carried.{Carried}
use Rattle.afs_num.specs.declared.messages.Carried.TheVariants as carried
use Rattle.afs_num.specs.declared.messages.Message.{Message}
use Rattle.afs_num.specs.declared.messages.Received.{Received}
use Rattle.afs_num.specs.declared.messages.Received.TheVariants.{Nothing, Unserved, Unreadable, Whole}
use Rattle.afs_num.specs.declared.messages.Reply.TheVariants as tell
use Rattle.afs_num.specs.declared.histories.Body.{Body}
use Rattle.afs_num.specs.declared.histories.ReadBody.{ReadBody}
use Rattle.afs_num.specs.declared.histories.ReadBody.TheVariants as seen
use Rattle.afs_num.specs.declared.histories.ReadSource.TheVariants.{Fetched}
use Rattle.afs_num.specs.declared.histories.ReadStatus.{ReadStatus}
use Rattle.spec_history.specs.declared.acts.Act.{Act}
use Rattle.spec_history.specs.declared.acts.Operand.{Operand}
use Rattle.afs_num.specs.declared.location_calls.LocEntry.{LocEntry}
use Rattle.spec_history.specs.declared.lines.Line.{Line}
use Rattle.spec_history.specs.declared.lines.Line.TheVariants as lines
use Rattle.spec_model.specs.Calls.{Admitted, admitted, is_sent_again, last_timeout}
use Rattle.spec_model.specs.Calls as pairs
use Rattle.spec_rows.specs.States.{CacheEntry, Gift}
use Rattle.spec_rows.specs.Going as going
use Rattle.spec_rows.specs.Going.{ClientState, Going, Left, Need, Seek, next, began, filled, operand_in, volume_at, with_read}
use Rattle.spec_rows.specs.ClientRow.{admits_call, asks_where, awaits, begin_row, begins_by, behind_batch, body_told, breaks, call_of, called, callee_of, calls_again, client_row, counts, dead_code, dropped, ends_step, entries_told, entry_in, cache_entry_told, find_cached, gift_of, with_given, given_up_in, gives_all, gives_by, gives_up, goes_by, guest_row, has_location, hears, left_in, seek_timeout_row, ignores, in_order, is_awaited, stands_below, is_busy_code, is_gone_code, is_older, is_sought, is_spent, is_trusted, knows_place, located, located_by, located_on, Look, look_at, looked, most_busy, most_moved, most_reads, moved_on, put_entries, put_entry, read_lines, refuses, refuses_for_good, runs_call, runs_carried, seeks_on, sought_by, sought_ends, sought_or, status_look, status_told, takes, takes_bulk, takes_bytes, takes_data, takes_entries, takes_entry, takes_given, takes_in, takes_list, takes_plain, takes_rights, takes_set, takes_shown, takes_status, takes_stored, timeout_line, timeout_row, tries_again, trusted_in, untrusted_in, volume_asked, walked, Walked, walks_on, whole, with_statuses}
use Rattle.spec_rows.specs.Steps.{Step}
use Rattle.spec_history.specs.declared.lines.Outs.{Outs}
use Rattle.spec_model.specs.Steps.{NodeState}
use Rattle.spec_ideal.specs.Operations.{volume_changed}
use Rattle.afs_calling.specs.Stepping.{Answers, Takes}
use Rattle.spec_copyrows.specs.CopyRow as copy_rows
use Rattle.spec_copyrows.specs.CopyRow.{answers_at, answers_in, answers_to, by_release, copy_begin_row, copy_row, copy_timeout_row, dies_at, dropping, entry_told as entry_carried, hears_by, is_below_release, is_over, offer_in, offers, Offer, refuses_at, renewing, tells_new, uses, uses_newer, without_older}
use Rattle.spec_copyrows.specs.Sites.{as_it_is, asked_since, behind_first, calls_round, goes_round, leaves_site, round_of, seen_of, sited, sited_by, sited_in, unasked, with_client, CopyState, Round}
use Rattle.afs_cache.specs.Managing.{copy_seek_times_out, copy_times_out}
use Rattle.afs_cache.specs.Lasting.{lasting}

-- what lasts stays, and the last number rises by one at most
abbrev pub Rises : ClientState → Step ClientState → Type 0
Rises c s = (lasting s.state ≡ lasting c) × (s.state.last ≤ c.last + 1)

stays : (n : ℕ) → n ≤ n + 1
stays n = omega arith

rises : (n : ℕ) → n + 1 ≤ n + 1
rises n = omega arith

either : (c : ClientState) (b : Bool) (s t : Step ClientState) → Rises c s → Rises c t → Rises c (cond b s t)
either c true s t h k = h
either c false s t h k = k

goes_by_rises : (me : Node) (c : ClientState) (front : List Line → List Line) (w : Walked) (need : Need) → Rises c (goes_by me c front w need)
goes_by_rises me c front w (going.reads f) = (refl, rises c.last)
goes_by_rises me c front w (going.reads_status f) = (refl, rises c.last)
goes_by_rises me c front w (going.reads_statuses fs) = (refl, rises c.last)
goes_by_rises me c front w (going.reads_rights f) = (refl, rises c.last)
goes_by_rises me c front w (going.asks_for call) = (refl, rises c.last)
goes_by_rises me c front w going.gives_back = (refl, rises c.last)
goes_by_rises me c front w (going.locates o) = (refl, rises c.last)
goes_by_rises me c front w (going.answers n) = (refl, stays c.last)

walks_rises : (me : Node) (c : ClientState) (clock : ℕ) (front : List Line → List Line) (act : Going) (cache : List CacheEntry) → Rises c (walks_on me c clock front act cache)
walks_rises me c clock front act cache =
    let w : Walked = walked (most_reads act) clock act cache in
    goes_by_rises me c front w (next w.act)

gives_rises : (me : Node) (c : ClientState) (front : List Line → List Line) (act : Going) (gifts : List Gift) → Rises c (gives_by me c front act gifts)
gives_rises me c front act [] = (refl, stays c.last)
gives_rises me c front act (g ∷ gs) = (refl, rises c.last)

begins_rises : (me : Node) (c : ClientState) (clock : ℕ) (front : List Line → List Line) (act : Going) (need : Need) → Rises c (begins_by me c clock front act need)
begins_rises me c clock front act (going.reads f) = walks_rises me c clock front act c.cache
begins_rises me c clock front act (going.reads_status f) = walks_rises me c clock front act c.cache
begins_rises me c clock front act (going.reads_statuses fs) = walks_rises me c clock front act c.cache
begins_rises me c clock front act (going.reads_rights f) = walks_rises me c clock front act c.cache
begins_rises me c clock front act (going.asks_for call) = walks_rises me c clock front act c.cache
begins_rises me c clock front act going.gives_back =
    gives_rises me (record c { cache = untrusted_in clock c.cache }) (λ ls. front (dropped me (trusted_in clock c.cache) ls)) act (in_order (map gift_of (trusted_in clock c.cache)))
begins_rises me c clock front act (going.locates o) = walks_rises me c clock front act c.cache
begins_rises me c clock front act (going.answers n) = walks_rises me c clock front act c.cache

pub begin_rises : (me : Node) (c : ClientState) (clock : ℕ) (act : Act) → Rises c (begin_row me c clock act)
unfolding begin_row
begin_rises me c clock act = begins_rises me (record c { busy = 0; moved = 0 }) clock (λ ls. lines.Begin me act ∷ ls) (began c.table act) (next (began c.table act))

-- ---- replies

entry_rises : (me : Node) (c : ClientState) (clock place : ℕ) (act : Going) (entry : CacheEntry) (body : ReadBody) → Rises c (takes_entry me c clock place act entry body)
entry_rises me c clock place act entry body =
    let front : List Line → List Line = read_lines me place (look_at Fetched entry body) in
    let going : Going = with_read entry.fid body act in
    let cache : List CacheEntry = put_entry c.capacity entry c.cache in
    either c (is_trusted clock entry) (walks_on me c clock front going cache) (calls_again me c place act) (walks_rises me c clock front going cache) (refl, rises c.last)

entries_rise : (me : Node) (c : ClientState) (clock place : ℕ) (act : Going) (es : List CacheEntry) → Rises c (takes_entries me c clock place act es)
entries_rise me c clock place act es =
    let front : List Line → List Line = λ ls. with_given place (looked me (map status_look es) ls) in
    let going : Going = with_statuses es act in
    let cache : List CacheEntry = put_entries c.capacity es c.cache in
    either c (list_any (λ (e : CacheEntry). not (is_trusted clock e)) es) (calls_again me c place act) (walks_on me c clock front going cache) (refl, rises c.last) (walks_rises me c clock front going cache)

status_rises : (me : Node) (c : ClientState) (clock place : ℕ) (fid : Fid) (status : AfsFetchStatus) (call : FsCall) → Rises c (takes_status me c clock place fid status call)
status_rises me c clock place fid status call = either c (not c.spoiled && stands_below clock status.sync_counter (find_cached fid c.cache)) _ _ (refl, stays c.last) (refl, stays c.last)

data_rises : (me : Node) (c : ClientState) (clock place : ℕ) (act : Going) (contents : List ℕ) (status : AfsFetchStatus) (callback : AfsCallBack) (sync : AfsVolSync) (call : FsCall) → Rises c (takes_data me c clock place act contents status callback sync call)
data_rises me c clock place act contents status callback sync (calls.FetchData fid position wanted) =
    entry_rises me c clock place act (cache_entry_told c.callee fid status callback sync (Some (body_told status.file_type contents))) (seen.Contents (body_told status.file_type contents))
data_rises me c clock place act contents status callback sync (calls.FetchAcl fid) = (refl, stays c.last)
data_rises me c clock place act contents status callback sync (calls.FetchStatus fid) = (refl, stays c.last)
data_rises me c clock place act contents status callback sync (calls.StoreData fid set position wanted file_length stored) = (refl, stays c.last)
data_rises me c clock place act contents status callback sync (calls.StoreAcl fid acl) = (refl, stays c.last)
data_rises me c clock place act contents status callback sync (calls.StoreStatus fid set) = (refl, stays c.last)
data_rises me c clock place act contents status callback sync (calls.RemoveFile d n) = (refl, stays c.last)
data_rises me c clock place act contents status callback sync (calls.CreateFile d n s) = (refl, stays c.last)
data_rises me c clock place act contents status callback sync (calls.Rename d n e m) = (refl, stays c.last)
data_rises me c clock place act contents status callback sync (calls.Symlink d n t s) = (refl, stays c.last)
data_rises me c clock place act contents status callback sync (calls.Link d n f) = (refl, stays c.last)
data_rises me c clock place act contents status callback sync (calls.MakeDir d n s) = (refl, stays c.last)
data_rises me c clock place act contents status callback sync (calls.RemoveDir d n) = (refl, stays c.last)
data_rises me c clock place act contents status callback sync (calls.GiveUpCallBacks fs cs) = (refl, stays c.last)
data_rises me c clock place act contents status callback sync (calls.GetVolumeStatus v) = (refl, stays c.last)
data_rises me c clock place act contents status callback sync calls.GetTime = (refl, stays c.last)
data_rises me c clock place act contents status callback sync (calls.BulkStatus fs) = (refl, stays c.last)
data_rises me c clock place act contents status callback sync (calls.CallBack fs cs) = (refl, stays c.last)
data_rises me c clock place act contents status callback sync calls.InitCallBackState = (refl, stays c.last)
data_rises me c clock place act contents status callback sync calls.Probe = (refl, stays c.last)

shown_rises : (me : Node) (c : ClientState) (clock place : ℕ) (act : Going) (status : AfsFetchStatus) (callback : AfsCallBack) (sync : AfsVolSync) (call : FsCall) → Rises c (takes_shown me c clock place act status callback sync call)
shown_rises me c clock place act status callback sync (calls.FetchData fid position wanted) = (refl, stays c.last)
shown_rises me c clock place act status callback sync (calls.FetchAcl fid) = (refl, stays c.last)
shown_rises me c clock place act status callback sync (calls.FetchStatus fid) = entry_rises me c clock place act (cache_entry_told c.callee fid status callback sync None) (seen.Status (status_told status))
shown_rises me c clock place act status callback sync (calls.StoreData fid set position wanted file_length contents) = (refl, stays c.last)
shown_rises me c clock place act status callback sync (calls.StoreAcl fid acl) = (refl, stays c.last)
shown_rises me c clock place act status callback sync (calls.StoreStatus fid set) = (refl, stays c.last)
shown_rises me c clock place act status callback sync (calls.RemoveFile d n) = (refl, stays c.last)
shown_rises me c clock place act status callback sync (calls.CreateFile d n s) = (refl, stays c.last)
shown_rises me c clock place act status callback sync (calls.Rename d n e m) = (refl, stays c.last)
shown_rises me c clock place act status callback sync (calls.Symlink d n t s) = (refl, stays c.last)
shown_rises me c clock place act status callback sync (calls.Link d n f) = (refl, stays c.last)
shown_rises me c clock place act status callback sync (calls.MakeDir d n s) = (refl, stays c.last)
shown_rises me c clock place act status callback sync (calls.RemoveDir d n) = (refl, stays c.last)
shown_rises me c clock place act status callback sync (calls.GiveUpCallBacks fs cs) = (refl, stays c.last)
shown_rises me c clock place act status callback sync (calls.GetVolumeStatus v) = (refl, stays c.last)
shown_rises me c clock place act status callback sync calls.GetTime = (refl, stays c.last)
shown_rises me c clock place act status callback sync (calls.BulkStatus fs) = (refl, stays c.last)
shown_rises me c clock place act status callback sync (calls.CallBack fs cs) = (refl, stays c.last)
shown_rises me c clock place act status callback sync calls.InitCallBackState = (refl, stays c.last)
shown_rises me c clock place act status callback sync calls.Probe = (refl, stays c.last)

bulk_rises : (me : Node) (c : ClientState) (clock place : ℕ) (act : Going) (statuses : List AfsFetchStatus) (callbacks : List AfsCallBack) (sync : AfsVolSync) (call : FsCall) → Rises c (takes_bulk me c clock place act statuses callbacks sync call)
bulk_rises me c clock place act statuses callbacks sync (calls.FetchData fid position wanted) = (refl, stays c.last)
bulk_rises me c clock place act statuses callbacks sync (calls.FetchAcl fid) = (refl, stays c.last)
bulk_rises me c clock place act statuses callbacks sync (calls.FetchStatus fid) = (refl, stays c.last)
bulk_rises me c clock place act statuses callbacks sync (calls.StoreData fid set position wanted file_length contents) = (refl, stays c.last)
bulk_rises me c clock place act statuses callbacks sync (calls.StoreAcl fid acl) = (refl, stays c.last)
bulk_rises me c clock place act statuses callbacks sync (calls.StoreStatus fid set) = (refl, stays c.last)
bulk_rises me c clock place act statuses callbacks sync (calls.RemoveFile d n) = (refl, stays c.last)
bulk_rises me c clock place act statuses callbacks sync (calls.CreateFile d n s) = (refl, stays c.last)
bulk_rises me c clock place act statuses callbacks sync (calls.Rename d n e m) = (refl, stays c.last)
bulk_rises me c clock place act statuses callbacks sync (calls.Symlink d n t s) = (refl, stays c.last)
bulk_rises me c clock place act statuses callbacks sync (calls.Link d n f) = (refl, stays c.last)
bulk_rises me c clock place act statuses callbacks sync (calls.MakeDir d n s) = (refl, stays c.last)
bulk_rises me c clock place act statuses callbacks sync (calls.RemoveDir d n) = (refl, stays c.last)
bulk_rises me c clock place act statuses callbacks sync (calls.GiveUpCallBacks fs cs) = (refl, stays c.last)
bulk_rises me c clock place act statuses callbacks sync (calls.GetVolumeStatus v) = (refl, stays c.last)
bulk_rises me c clock place act statuses callbacks sync calls.GetTime = (refl, stays c.last)
bulk_rises me c clock place act statuses callbacks sync (calls.BulkStatus fs) = entries_rise me c clock place act (entries_told c.callee sync fs statuses callbacks)
bulk_rises me c clock place act statuses callbacks sync (calls.CallBack fs cs) = (refl, stays c.last)
bulk_rises me c clock place act statuses callbacks sync calls.InitCallBackState = (refl, stays c.last)
bulk_rises me c clock place act statuses callbacks sync calls.Probe = (refl, stays c.last)

list_rises : (me : Node) (c : ClientState) (clock place : ℕ) (act : Going) (text : List ℕ) (status : AfsFetchStatus) (sync : AfsVolSync) (call : FsCall) → Rises c (takes_list me c clock place act text status sync call)
list_rises me c clock place act text status sync (calls.FetchData fid position wanted) = (refl, stays c.last)
list_rises me c clock place act text status sync (calls.FetchAcl fid) =
    let look : Look = record { fid = fid; index = status.sync_counter; source = Fetched; body = seen.AccessList text } in
    let older : CacheEntry → Bool = is_older fid status.sync_counter sync.release in
    walks_rises me c clock (λ ls. read_lines me place look (dropped me (filter older c.cache) ls)) (with_read fid (seen.AccessList text) act) (filter (λ e. not (older e)) c.cache)
list_rises me c clock place act text status sync (calls.FetchStatus fid) = (refl, stays c.last)
list_rises me c clock place act text status sync (calls.StoreData fid set position wanted file_length contents) = (refl, stays c.last)
list_rises me c clock place act text status sync (calls.StoreAcl fid acl) = (refl, stays c.last)
list_rises me c clock place act text status sync (calls.StoreStatus fid set) = (refl, stays c.last)
list_rises me c clock place act text status sync (calls.RemoveFile d n) = (refl, stays c.last)
list_rises me c clock place act text status sync (calls.CreateFile d n s) = (refl, stays c.last)
list_rises me c clock place act text status sync (calls.Rename d n e m) = (refl, stays c.last)
list_rises me c clock place act text status sync (calls.Symlink d n t s) = (refl, stays c.last)
list_rises me c clock place act text status sync (calls.Link d n f) = (refl, stays c.last)
list_rises me c clock place act text status sync (calls.MakeDir d n s) = (refl, stays c.last)
list_rises me c clock place act text status sync (calls.RemoveDir d n) = (refl, stays c.last)
list_rises me c clock place act text status sync (calls.GiveUpCallBacks fs cs) = (refl, stays c.last)
list_rises me c clock place act text status sync (calls.GetVolumeStatus v) = (refl, stays c.last)
list_rises me c clock place act text status sync calls.GetTime = (refl, stays c.last)
list_rises me c clock place act text status sync (calls.BulkStatus fs) = (refl, stays c.last)
list_rises me c clock place act text status sync (calls.CallBack fs cs) = (refl, stays c.last)
list_rises me c clock place act text status sync calls.InitCallBackState = (refl, stays c.last)
list_rises me c clock place act text status sync calls.Probe = (refl, stays c.last)

set_rises : (me : Node) (c : ClientState) (clock place : ℕ) (status : AfsFetchStatus) (call : FsCall) → Rises c (takes_set me c clock place status call)
set_rises me c clock place status (calls.FetchData fid position wanted) = (refl, stays c.last)
set_rises me c clock place status (calls.FetchAcl fid) = (refl, stays c.last)
set_rises me c clock place status (calls.FetchStatus fid) = (refl, stays c.last)
set_rises me c clock place status (calls.StoreData fid set position wanted file_length contents) = either c c.spoiled _ _ (refl, stays c.last) (refl, stays c.last)
set_rises me c clock place status (calls.StoreAcl fid acl) = status_rises me c clock place fid status (calls.StoreAcl fid acl)
set_rises me c clock place status (calls.StoreStatus fid set) = status_rises me c clock place fid status (calls.StoreStatus fid set)
set_rises me c clock place status (calls.RemoveFile d n) = (refl, stays c.last)
set_rises me c clock place status (calls.CreateFile d n s) = (refl, stays c.last)
set_rises me c clock place status (calls.Rename d n e m) = (refl, stays c.last)
set_rises me c clock place status (calls.Symlink d n t s) = (refl, stays c.last)
set_rises me c clock place status (calls.Link d n f) = (refl, stays c.last)
set_rises me c clock place status (calls.MakeDir d n s) = (refl, stays c.last)
set_rises me c clock place status (calls.RemoveDir d n) = (refl, stays c.last)
set_rises me c clock place status (calls.GiveUpCallBacks fs cs) = (refl, stays c.last)
set_rises me c clock place status (calls.GetVolumeStatus v) = (refl, stays c.last)
set_rises me c clock place status calls.GetTime = (refl, stays c.last)
set_rises me c clock place status (calls.BulkStatus fs) = (refl, stays c.last)
set_rises me c clock place status (calls.CallBack fs cs) = (refl, stays c.last)
set_rises me c clock place status calls.InitCallBackState = (refl, stays c.last)
set_rises me c clock place status calls.Probe = (refl, stays c.last)

given_rises : (me : Node) (c : ClientState) (place : ℕ) (act : Going) (call : FsCall) → Rises c (takes_given me c place act call)
given_rises me c place act (calls.FetchData fid position wanted) = (refl, stays c.last)
given_rises me c place act (calls.FetchAcl fid) = (refl, stays c.last)
given_rises me c place act (calls.FetchStatus fid) = (refl, stays c.last)
given_rises me c place act (calls.StoreData fid set position wanted file_length contents) = (refl, stays c.last)
given_rises me c place act (calls.StoreAcl fid acl) = (refl, stays c.last)
given_rises me c place act (calls.StoreStatus fid set) = (refl, stays c.last)
given_rises me c place act (calls.RemoveFile d n) = (refl, stays c.last)
given_rises me c place act (calls.CreateFile d n s) = (refl, stays c.last)
given_rises me c place act (calls.Rename d n e m) = (refl, stays c.last)
given_rises me c place act (calls.Symlink d n t s) = (refl, stays c.last)
given_rises me c place act (calls.Link d n f) = (refl, stays c.last)
given_rises me c place act (calls.MakeDir d n s) = (refl, stays c.last)
given_rises me c place act (calls.RemoveDir d n) = (refl, stays c.last)
given_rises me c place act (calls.GiveUpCallBacks fs cs) = gives_rises me c (with_given place) act (behind_batch c.gifts)
given_rises me c place act (calls.GetVolumeStatus v) = (refl, stays c.last)
given_rises me c place act calls.GetTime = (refl, stays c.last)
given_rises me c place act (calls.BulkStatus fs) = (refl, stays c.last)
given_rises me c place act (calls.CallBack fs cs) = (refl, stays c.last)
given_rises me c place act calls.InitCallBackState = (refl, stays c.last)
given_rises me c place act calls.Probe = (refl, stays c.last)

takes_rises : (me : Node) (c : ClientState) (clock place : ℕ) (act : Going) (call : FsCall) (reply : FsReply) → Rises c (takes me c clock place act call reply)
takes_rises me c clock place act call (replies.FetchData contents status callback sync) = data_rises me c clock place act contents status callback sync call
takes_rises me c clock place act call (replies.FetchAcl text status sync) = list_rises me c clock place act text status sync call
takes_rises me c clock place act call (replies.FetchStatus status callback sync) = shown_rises me c clock place act status callback sync call
takes_rises me c clock place act call (replies.StoreData status sync) = set_rises me c clock place status call
takes_rises me c clock place act call (replies.StoreAcl status sync) = set_rises me c clock place status call
takes_rises me c clock place act call (replies.StoreStatus status sync) = set_rises me c clock place status call
takes_rises me c clock place act call (replies.RemoveFile x0 x1) = (refl, stays c.last)
takes_rises me c clock place act call (replies.CreateFile x0 x1 x2 x3 x4) = (refl, stays c.last)
takes_rises me c clock place act call (replies.Rename x0 x1 x2) = (refl, stays c.last)
takes_rises me c clock place act call (replies.Symlink x0 x1 x2 x3) = (refl, stays c.last)
takes_rises me c clock place act call (replies.Link x0 x1 x2) = (refl, stays c.last)
takes_rises me c clock place act call (replies.MakeDir x0 x1 x2 x3 x4) = (refl, stays c.last)
takes_rises me c clock place act call (replies.RemoveDir x0 x1) = (refl, stays c.last)
takes_rises me c clock place act call replies.GiveUpCallBacks = given_rises me c place act call
takes_rises me c clock place act call (replies.GetVolumeStatus x0 x1 x2 x3 x4) = (refl, stays c.last)
takes_rises me c clock place act call (replies.GetTime x0 x1) = (refl, stays c.last)
takes_rises me c clock place act call (replies.BulkStatus statuses callbacks sync) = bulk_rises me c clock place act statuses callbacks sync call
takes_rises me c clock place act call replies.CallBack = (refl, stays c.last)
takes_rises me c clock place act call replies.InitCallBackState = (refl, stays c.last)
takes_rises me c clock place act call replies.Probe = (refl, stays c.last)

where_rises : (me : Node) (c : ClientState) (place : ℕ) (act : Going) (code : Code) (o : Option Operand) → Rises c (asks_where me c place act code o)
where_rises me c place act code None = (refl, stays c.last)
where_rises me c place act code (Some o) = (refl, rises c.last)

for_good_rises : (me : Node) (c : ClientState) (place : ℕ) (act : Going) (code : Code) → Rises c (refuses_for_good me c place act code)
for_good_rises me c place act code =
    either c (is_gone_code code && nat_lt c.moved most_moved) _ _ (where_rises me c place act code (operand_in act (volume_asked (call_of c act)))) (refl, stays c.last)

refuses_rises : (me : Node) (c : ClientState) (place : ℕ) (act : Going) (code : Code) → Rises c (refuses me c place act code)
refuses_rises me c place act code = either c (is_busy_code code && nat_lt c.busy most_busy) _ _ (refl, rises c.last) (for_good_rises me c place act code)

counts_rise : (me : Node) (c : ClientState) (clock place : ℕ) (act : Going) (head : Head) (x : Carried) → Rises c (counts me c clock place act head x)
counts_rise me c clock place act head (carried.Call user call) = (refl, stays c.last)
counts_rise me c clock place act head (carried.Refusal code) = either c (is_spent c act) _ _ (refl, rises c.last) (refuses_rises me c place act code)
counts_rise me c clock place act head (carried.Reply (tell.File reply)) = either c (is_spent c act) _ _ (refl, rises c.last) (takes_rises me c clock place act (call_of c act) reply)
counts_rise me c clock place act head (carried.Reply (tell.Volume reply)) = (refl, stays c.last)
counts_rise me c clock place act head (carried.Reply (tell.Location reply)) = (refl, stays c.last)
counts_rise me c clock place act head carried.Notice = (refl, stays c.last)

awaits_rises : (me : Node) (c : ClientState) (clock place : ℕ) (head : Head) (x : Carried) (o : Option Going) → Rises c (awaits me c clock place head x o)
awaits_rises me c clock place head x None = (refl, stays c.last)
awaits_rises me c clock place head x (Some act) = either c (is_awaited c act head) _ _ (counts_rise me c clock place act head x) (refl, stays c.last)

-- ---- calls of servers

breaks_rise : (me : Node) (c : ClientState) (place : ℕ) (head : Head) (call : FsCall) → Rises c (breaks me c place head call)
breaks_rise me c place head (calls.FetchData fid position wanted) = (refl, stays c.last)
breaks_rise me c place head (calls.FetchAcl fid) = (refl, stays c.last)
breaks_rise me c place head (calls.FetchStatus fid) = (refl, stays c.last)
breaks_rise me c place head (calls.StoreData fid set position wanted file_length contents) = (refl, stays c.last)
breaks_rise me c place head (calls.StoreAcl fid acl) = (refl, stays c.last)
breaks_rise me c place head (calls.StoreStatus fid set) = (refl, stays c.last)
breaks_rise me c place head (calls.RemoveFile d n) = (refl, stays c.last)
breaks_rise me c place head (calls.CreateFile d n s) = (refl, stays c.last)
breaks_rise me c place head (calls.Rename d n e m) = (refl, stays c.last)
breaks_rise me c place head (calls.Symlink d n t s) = (refl, stays c.last)
breaks_rise me c place head (calls.Link d n f) = (refl, stays c.last)
breaks_rise me c place head (calls.MakeDir d n s) = (refl, stays c.last)
breaks_rise me c place head (calls.RemoveDir d n) = (refl, stays c.last)
breaks_rise me c place head (calls.GiveUpCallBacks fs cs) = (refl, stays c.last)
breaks_rise me c place head (calls.GetVolumeStatus v) = (refl, stays c.last)
breaks_rise me c place head calls.GetTime = (refl, stays c.last)
breaks_rise me c place head (calls.BulkStatus fs) = (refl, stays c.last)
breaks_rise me c place head (calls.CallBack fs cs) = (refl, stays c.last)
breaks_rise me c place head calls.InitCallBackState = (refl, stays c.last)
breaks_rise me c place head calls.Probe = (refl, stays c.last)

carried_rises : (me : Node) (c : ClientState) (place : ℕ) (head : Head) (x : Carried) → Rises c (runs_carried me c place head x)
carried_rises me c place head (carried.Call user (ask.File call)) = breaks_rise me c place head call
carried_rises me c place head (carried.Call user (ask.Volume call)) = (refl, stays c.last)
carried_rises me c place head (carried.Call user (ask.Location call)) = (refl, stays c.last)
carried_rises me c place head (carried.Refusal code) = (refl, stays c.last)
carried_rises me c place head (carried.Reply reply) = (refl, stays c.last)
carried_rises me c place head carried.Notice = (refl, stays c.last)

runs_rises : (me : Node) (c : ClientState) (place : ℕ) (head : Head) (r : Received) → Rises c (runs_call me c place head r)
runs_rises me c place head Nothing = (refl, stays c.last)
runs_rises me c place head (Unserved other) = (refl, stays c.last)
runs_rises me c place head (Unreadable other) = (refl, stays c.last)
runs_rises me c place head (Whole m) = carried_rises me c place head m.carried

admits_rises : (me : Node) (c : ClientState) (place : ℕ) (head : Head) (r : Received) (a : Admitted Message) → Rises c (admits_call me c place head r a)
admits_rises me c place head r pairs.runs = runs_rises me c place head r
admits_rises me c place head r (pairs.kept reply) = (refl, stays c.last)
admits_rises me c place head r pairs.in_progress = (refl, stays c.last)
admits_rises me c place head r pairs.older = (refl, stays c.last)
admits_rises me c place head r (pairs.wrong_boot boot) = (refl, stays c.last)

called_rises : (me : Node) (c : ClientState) (place : ℕ) (head : Head) (r : Received) → Rises c (called me c place head r)
called_rises me c place head r = admits_rises me c place head r (admitted c.epoch c.seats head)

hears_rises : (me : Node) (c : ClientState) (clock place : ℕ) (head : Head) (x : Carried) → Rises c (hears me c clock place head x)
hears_rises me c clock place head (carried.Call user call) = called_rises me c place head (whole head (carried.Call user call))
hears_rises me c clock place head (carried.Refusal code) = awaits_rises me c clock place head (carried.Refusal code) c.running
hears_rises me c clock place head (carried.Reply reply) = awaits_rises me c clock place head (carried.Reply reply) c.running
hears_rises me c clock place head carried.Notice = awaits_rises me c clock place head carried.Notice c.running

in_rises : (me : Node) (c : ClientState) (clock place : ℕ) (r : Received) → Rises c (takes_in me c clock place r)
in_rises me c clock place Nothing = (refl, stays c.last)
in_rises me c clock place (Unserved head) = either c (same_node head.to me) _ _ (called_rises me c place head (Unserved head)) (refl, stays c.last)
in_rises me c clock place (Unreadable head) = either c (same_node head.to me) _ _ (called_rises me c place head (Unreadable head)) (refl, stays c.last)
in_rises me c clock place (Whole m) = either c (same_node m.head.to me) _ _ (hears_rises me c clock place m.head m.carried) (refl, stays c.last)

client_rises : (me : Node) (c : ClientState) (clock place : ℕ) (r : Received) → Rises c (client_row me c clock place r)
unfolding client_row
client_rises me c clock place r = in_rises me c clock place r

-- ---- the location database answers

on_rises : (me : Node) (c : ClientState) (clock place : ℕ) (act : Going) (o : Option ℕ) → Rises c (located_on me c clock place act o)
on_rises me c clock place act None = (refl, stays c.last)
on_rises me c clock place act (Some id) = walks_rises me c clock (with_given place) (filled c.table act) c.cache

moved_rises : (me : Node) (c : ClientState) (place : ℕ) (act : Going) (left : Left) (o : Option ℕ) → Rises c (moved_on me c place act left o)
moved_rises me c place act left None = (refl, stays c.last)
moved_rises me c place act left (Some id) = either c (same_node (callee_of c act) left.server) _ _ (refl, stays c.last) (refl, rises c.last)

located_rises : (me : Node) (c : ClientState) (clock place : ℕ) (k : Seek) (l : LocEntry) (left : Option Left) → Rises c (located me c clock place k l left)
located_rises me c clock place k l None = on_rises me (knows_place l c) clock place k.act (volume_at (knows_place l c).table k.operand)
located_rises me c clock place k l (Some left) =
    either c (has_location l c.table) _ _ (refl, stays c.last) (moved_rises me (knows_place l c) place k.act left (volume_at (knows_place l c).table k.operand))

entry_told_rises : (me : Node) (c : ClientState) (clock place : ℕ) (k : Seek) (o : Option LocEntry) → Rises c (located_by me c clock place k o)
entry_told_rises me c clock place k None = (refl, stays c.last)
entry_told_rises me c clock place k (Some e) = located_rises me c clock place k e k.left

sought_rises : (me : Node) (c : ClientState) (clock place : ℕ) (k : Seek) (head : Head) (x : Carried) → Rises c (sought_by me c clock place k head x)
sought_rises me c clock place k head (carried.Call user call) = (refl, stays c.last)
sought_rises me c clock place k head (carried.Refusal code) = (refl, stays c.last)
sought_rises me c clock place k head (carried.Reply (tell.File reply)) = (refl, stays c.last)
sought_rises me c clock place k head (carried.Reply (tell.Volume reply)) = (refl, stays c.last)
sought_rises me c clock place k head (carried.Reply (tell.Location reply)) = entry_told_rises me c clock place k (entry_in reply)
sought_rises me c clock place k head carried.Notice = (refl, stays c.last)

sought_or_rises : (me : Node) (c : ClientState) (clock place : ℕ) (m : Message) (o : Option Seek) → Rises c (sought_or me c clock place m o)
sought_or_rises me c clock place m None = client_rises me c clock place (Whole m)
sought_or_rises me c clock place m (Some k) = either c (is_sought me c k m.head m.carried) _ _ (sought_rises me c clock place k m.head m.carried) (client_rises me c clock place (Whole m))

pub row_rises : (me : Node) (c : ClientState) (clock place : ℕ) (r : Received) → Rises c (guest_row me c clock place r)
row_rises me c clock place Nothing = client_rises me c clock place Nothing
row_rises me c clock place (Unserved head) = client_rises me c clock place (Unserved head)
row_rises me c clock place (Unreadable head) = client_rises me c clock place (Unreadable head)
row_rises me c clock place (Whole m) = sought_or_rises me c clock place m c.seeking

-- ---- timeouts draw none

abbrev pub Keeps : ClientState → Step ClientState → Type 0
Keeps c s = (lasting s.state ≡ lasting c) × (s.state.last ≡ c.last)

kept_by : (c : ClientState) (b : Bool) (s t : Step ClientState) → Keeps c s → Keeps c t → Keeps c (cond b s t)
kept_by c true s t h k = h
kept_by c false s t h k = k

pub timeout_keeps : (me : Node) (c : ClientState) (act : Going) → Keeps c (timeout_row me c act)
timeout_keeps me c act = kept_by c (nat_lt c.tries 2) (tries_again me c act) (gives_up me c (call_of c act)) (refl, refl) (refl, refl)

seek_keeps : (me : Node) (c : ClientState) (k : Seek) → Keeps c (seek_timeout_row me c k)
seek_keeps me c k = kept_by c (is_sent_again c.tries) (seeks_on me c k) (sought_ends me c (λ ls. timeout_line me c last_timeout ∷ ls) dead_code) (refl, refl) (refl, refl)

-- ---- the row of a client that reads read-only volumes too

abbrev pub CopyRises : CopyState → Step CopyState → Type 0
CopyRises c s = (lasting s.state.client ≡ lasting c.client) × (s.state.client.last ≤ c.client.last + 1)

copy_either : (c : CopyState) (b : Bool) (s t : Step CopyState) → CopyRises c s → CopyRises c t → CopyRises c (cond b s t)
copy_either c true s t h k = h
copy_either c false s t h k = k

kept_rises : (c : CopyState) (s : Step ClientState) → Keeps c.client s → CopyRises c (as_it_is c s)
kept_rises c s h = (h.0, rw h.1 (stays c.client.last))

round_rises : (me : Node) (c : CopyState) (act : Going) (r : Round) (ls : List Line) (sites : List ℕ) → CopyRises c (goes_round me c act r sites ls)
round_rises me c act r ls [] = (refl, stays c.client.last)
round_rises me c act r ls (server ∷ others) = (refl, rises c.client.last)

sited_in_rises : (me : Node) (c : CopyState) (s : Step ClientState) (act : Going) (o : Option Round) → Rises c.client s → CopyRises c (sited_in me c s act o)
sited_in_rises me c s act None h = h
sited_in_rises me c s act (Some r) h =
    let rise : CopyRises (with_client c (unasked c.client s.state)) (goes_round me (with_client c (unasked c.client s.state)) act r r.sites s.lines) = round_rises me (with_client c (unasked c.client s.state)) act r s.lines r.sites in
    (rise.0 ∙ h.0, rise.1)

sited_by_rises : (me : Node) (c : CopyState) (s : Step ClientState) (o : Option Going) → Rises c.client s → CopyRises c (sited_by me c s o)
sited_by_rises me c s None h = h
sited_by_rises me c s (Some act) h = sited_in_rises me c s act (round_of (with_client c s.state) act) h

sited_rises : (me : Node) (c : CopyState) (s : Step ClientState) → Rises c.client s → CopyRises c (sited me c s)
sited_rises me c s h = sited_by_rises me c s (asked_since c.client.last s.state) h

pub copy_begin_rises : (me : Node) (c : CopyState) (clock : ℕ) (act : Act) → CopyRises c (copy_begin_row me c clock act)
unfolding copy_begin_row
copy_begin_rises me c clock act = sited_rises me (record c { round = None }) (begin_row me c.client clock act) (begin_rises me c.client clock act)

module _ (me : Node) (c : CopyState) (clock place : ℕ) (m : Message) where
  uses_rises : CopyRises c (uses me c clock place m)
  uses_rises = sited_rises me c (guest_row me c.client clock place (Whole m)) (row_rises me c.client clock place (Whole m))

  newer_rises : (id n : ℕ) → CopyRises c (uses_newer me c clock place m id n)
  newer_rises id n = sited_rises me (without_older c id n) (dropping me (filter (is_below_release id n) c.client.cache) (guest_row me (without_older c id n).client clock place (Whole m))) (row_rises me (without_older c id n).client clock place (Whole m))

  leaves_rises : (act : Going) (r : Round) → CopyRises c (leaves_site me c act r (lines.Given place ∷ []))
  leaves_rises act r = round_rises me c act (record r { sites = behind_first r.sites }) (lines.Given place ∷ []) (behind_first r.sites)

  release_rises : (act : Going) (r : Round) (n : ℕ) → CopyRises c (by_release me c clock place m act r n)
  release_rises act r n =
      copy_either c (nat_lt n (seen_of c r.volume)) (leaves_site me c act (record r { offered = Some n }) (lines.Given place ∷ []))
      (cond (nat_lt (seen_of c r.volume) n) (uses_newer me c clock place m r.volume n) (uses me c clock place m)) (leaves_rises act (record r { offered = Some n }))
      (copy_either c (nat_lt (seen_of c r.volume) n) (uses_newer me c clock place m r.volume n) (uses me c clock place m) (newer_rises r.volume n) uses_rises)

  offers_rise : (act : Going) (r : Round) (o : Option Offer) → CopyRises c (offers me c clock place m act r o)
  offers_rise act r None = uses_rises
  offers_rise act r (Some o) = copy_either c (is_spent c.client act || list_any (is_over clock) o.expiries) (calls_round me c act r (lines.Given place ∷ [])) (by_release me c clock place m act r o.release) (round_rises me c act r (lines.Given place ∷ []) r.sites) (release_rises act r o.release)

  refuses_at_rises : (act : Going) (r : Round) (code : Code) → CopyRises c (refuses_at me c clock place m act r code)
  refuses_at_rises act r code = copy_either c (is_busy_code code || is_spent c.client act) (uses me c clock place m) (leaves_site me c act (record r { refusal = Some code }) (lines.Given place ∷ [])) uses_rises (leaves_rises act (record r { refusal = Some code }))

  answers_at_rises : (act : Going) (r : Round) (x : Carried) → CopyRises c (answers_at me c clock place m act r x)
  answers_at_rises act r (carried.Call user call) = uses_rises
  answers_at_rises act r (carried.Refusal code) = refuses_at_rises act r code
  answers_at_rises act r (carried.Reply (tell.File reply)) = offers_rise act r (offer_in reply)
  answers_at_rises act r (carried.Reply (tell.Volume reply)) = uses_rises
  answers_at_rises act r (carried.Reply (tell.Location reply)) = uses_rises
  answers_at_rises act r carried.Notice = uses_rises

  answers_in_rises : (act : Going) (o : Option Round) → CopyRises c (answers_in me c clock place m act o)
  answers_in_rises act None = uses_rises
  answers_in_rises act (Some r) = answers_at_rises act r m.carried

  answers_to_rises : (o : Option Going) → CopyRises c (answers_to me c clock place m o)
  answers_to_rises None = uses_rises
  answers_to_rises (Some act) = copy_either c (same_node m.head.to me && is_awaited c.client act m.head) _ _ (answers_in_rises act (round_of c act)) uses_rises

  renewed_rises : (s : Seek) (o : Option LocEntry) → CopyRises c (uses me (with_client c (renewing c.client s o)) clock place m)
  renewed_rises s None = uses_rises
  renewed_rises s (Some e) = sited_rises me (with_client c (renewing c.client s (Some e))) (guest_row me (renewing c.client s (Some e)) clock place (Whole m)) (row_rises me (renewing c.client s (Some e)) clock place (Whole m))

  hears_by_rises : (o : Option Seek) → CopyRises c (hears_by me c clock place m o)
  hears_by_rises None = answers_to_rises c.client.running
  hears_by_rises (Some s) = copy_either c (tells_new me c.client m s) _ _ (renewed_rises s (entry_carried m.carried)) uses_rises

pub copy_row_rises : (me : Node) (c : CopyState) (clock place : ℕ) (r : Received) → CopyRises c (copy_row me c clock place r)
unfolding copy_row
copy_row_rises me c clock place Nothing = sited_rises me c (guest_row me c.client clock place Nothing) (row_rises me c.client clock place Nothing)
copy_row_rises me c clock place (Unserved head) = sited_rises me c (guest_row me c.client clock place (Unserved head)) (row_rises me c.client clock place (Unserved head))
copy_row_rises me c clock place (Unreadable head) = sited_rises me c (guest_row me c.client clock place (Unreadable head)) (row_rises me c.client clock place (Unreadable head))
copy_row_rises me c clock place (Whole m) = hears_by_rises me c clock place m c.client.seeking

dies_at_rises : (me : Node) (c : CopyState) (act : Going) (r : Round) → CopyRises c (dies_at me c act r)
dies_at_rises me c act r =
    round_rises me (with_client c (record c.client { cache = left_in (volume_changed (call_of c.client act)) c.client.cache })) act (record r { sites = behind_first r.sites })
    (timeout_line me c.client last_timeout ∷ dropped me (given_up_in (volume_changed (call_of c.client act)) c.client.cache) []) (behind_first r.sites)

dies_rises : (me : Node) (c : CopyState) (act : Going) (o : Option Round) → CopyRises c (copy_rows.times_out me c act o)
dies_rises me c act None = kept_rises c (timeout_row me c.client act) (timeout_keeps me c.client act)
dies_rises me c act (Some r) = copy_either c (is_sent_again c.client.tries) (as_it_is c (timeout_row me c.client act)) (dies_at me c act r) (kept_rises c (timeout_row me c.client act) (timeout_keeps me c.client act)) (dies_at_rises me c act r)

copy_timeout_rises : (me : Node) (c : CopyState) (act : Going) → CopyRises c (copy_timeout_row me c act)
unfolding copy_timeout_row
copy_timeout_rises me c act = dies_rises me c act (round_of c act)

copy_seek_rises : (me : Node) (c : CopyState) (o : Option Seek) → CopyRises c (copy_seek_times_out me c o)
copy_seek_rises me c None = (refl, stays c.client.last)
copy_seek_rises me c (Some k) = kept_rises c (seek_timeout_row me c.client k) (seek_keeps me c.client k)

pub copy_times_out_rises : (me : Node) (c : CopyState) (running : Option Going) → CopyRises c (copy_times_out me c running)
copy_times_out_rises me c None = copy_seek_rises me c c.client.seeking
copy_times_out_rises me c (Some act) = copy_timeout_rises me c act

-- ---- what the calls of the program tell

pub answers_rise : {E : Type 0} (step : Step CopyState) (old new : NodeState CopyState) (r : Result Outs E) → CopyRises old.state step → Answers step old new r → OnOk r (new.state.client.last ≤ old.state.client.last + 1)
answers_rise step old new (Ok outs) h a = rw a.1.state h.1
answers_rise step old new (Err e) h a = tt

pub takes_rise : {E : Type 0} (step : ℕ → Step CopyState) (old new : NodeState CopyState) (r : Result Outs E) → ((place : ℕ) → CopyRises old.state (step place)) → Takes step old new r → OnOk r (new.state.client.last ≤ old.state.client.last + 1)
takes_rise step old new (Ok outs) h t = rw (t.1 0).state (h 0).1
takes_rise step old new (Err e) h t = tt

pub answers_last : {E : Type 0} (step : Step CopyState) (old new : NodeState CopyState) (r : Result Outs E) → lasting step.state.client ≡ lasting old.state.client → Answers step old new r → lasting new.state.client ≡ lasting old.state.client
answers_last step old new (Ok outs) h a = ap (λ (c : CopyState). lasting c.client) a.1.state ∙ h
answers_last step old new (Err e) h a = ap (λ (n : NodeState CopyState). lasting n.state.client) a

pub takes_last : {E : Type 0} (step : ℕ → Step CopyState) (old new : NodeState CopyState) (r : Result Outs E) → ((place : ℕ) → CopyRises old.state (step place)) → Takes step old new r → lasting new.state.client ≡ lasting old.state.client
takes_last step old new (Ok outs) h t = ap (λ (c : CopyState). lasting c.client) (t.1 0).state ∙ (h 0).0
takes_last step old new (Err e) h t = ap (λ (n : NodeState CopyState). lasting n.state.client) t
