-- The steps of clients: a call that one sends is what it then waits for, under its last key; and it goes on with the call that it waits for, or
-- makes a later one.
use Rattle.std.proofs.Common.{◌≡◌, ℕ, ◌+◌, inr, Bool, true, false, cond, List, [], ◌∷◌, map, filter, not, Option, Some, None, refl}
use Rattle.std.specs.Prelude.{◌&&◌, nat_lt}
use Rattle.std.specs.List.{list_any}
use Rattle.spec_history.specs.declared.acts.Act.{Act}
use Rattle.spec_history.specs.declared.acts.Operand.{Operand}
use Rattle.spec_history.specs.declared.lines.Line.{Line}
use Rattle.spec_history.specs.declared.lines.Line.TheVariants as lines
use Rattle.spec_model.specs.Calls as pairs
use Rattle.spec_model.specs.Calls.{admitted, is_sent_again, last_timeout, Admitted}
use Rattle.afs_num.specs.Nodes.{same_node}
use Rattle.afs_num.specs.declared.calls.AfsCallBack.{AfsCallBack}
use Rattle.afs_num.specs.declared.calls.AfsFetchStatus.{AfsFetchStatus}
use Rattle.afs_num.specs.declared.calls.AfsVolSync.{AfsVolSync}
use Rattle.afs_num.specs.declared.calls.FsCall.{FsCall}
use Rattle.afs_num.specs.declared.calls.FsCall.TheVariants as calls
use Rattle.afs_num.specs.declared.calls.FsReply.{FsReply}
use Rattle.afs_num.specs.declared.calls.FsReply.TheVariants as replies
use Rattle.afs_num.specs.declared.histories.Body.TheVariants as bodies
use Rattle.afs_num.specs.declared.histories.ReadBody.{ReadBody}
use Rattle.afs_num.specs.declared.histories.ReadBody.TheVariants as seen
use Rattle.afs_num.specs.declared.histories.ReadSource.TheVariants.{Fetched}
use Rattle.afs_num.specs.declared.location_calls.LocEntry.{LocEntry}
use Rattle.afs_num.specs.declared.messages.Call.TheVariants as ask
use Rattle.afs_num.specs.declared.messages.Carried.{Carried}
use Rattle.afs_num.specs.declared.messages.Carried.TheVariants as carried
use Rattle.afs_num.specs.declared.messages.Message.{Message}
use Rattle.afs_num.specs.declared.messages.Received.TheVariants.{Whole}
use Rattle.afs_num.specs.declared.messages.Reply.TheVariants as tell
use Rattle.afs_num.specs.declared.types.Code.{Code}
use Rattle.afs_num.specs.declared.types.Fid.{Fid}
use Rattle.afs_num.specs.declared.types.Head.{Head}
use Rattle.afs_num.specs.declared.types.Node.{Node}
use Rattle.afs_num.specs.declared.types.Node.TheVariants.{Loc}
use Rattle.spec_rows.specs.ClientRow as row
use Rattle.spec_rows.specs.ClientRow.{admits_call, refused_with, answers_step, asks_where, awaits, begin_row, begins_by, behind_batch, body_told, breaks, call_of, callee_of, calls_again, client_row, counts, dead_code, drop_line, dropped, dropped_after, left_after, knows_boot, with_boot, entries_told, entry_in, cache_entry_told, find_cached, gift_of, with_given, given_up_in, gives_by, gives_up, goes_by, guest_row, has_location, hears, ignores, in_order, is_awaited, stands_below, is_busy_code, is_gone_code, is_older, is_sought, is_spent, is_trusted, knows_place, located, located_by, located_on, look_at, looked, most_busy, most_moved, most_reads, moved_on, put_entries, put_entry, read_lines, refuses, refuses_for_good, runs_carried, seek_timeout_row, seeks_on, sought_by, sought_ends, sought_or, status_look, status_told, takes, takes_bulk, takes_bytes, takes_data, takes_entries, takes_entry, takes_given, takes_list, takes_plain, takes_rights, takes_set, takes_shown, takes_status, takes_stored, timeout_line, timeout_row, tries_again, trusted_in, untrusted_in, volume_asked, walked, walks_on, whole, with_statuses, Look, Walked}
use Rattle.spec_rows.specs.Going.{answers, began, filled, gives_back, locates, next, operand_in, volume_at, with_read, ClientState, Going, Left, Need, Seek}
use Rattle.spec_rows.specs.ServerRow.{not_served}
use Rattle.spec_rows.specs.States.{CacheEntry, Gift, Location}
use Rattle.spec_rows.specs.Steps.{Step}
use Rattle.law_walks.specs.Sends.{AdmittedIs, SeatsAre}
use Rattle.law_walks.proofs.Seats.{admitted_is, seated_is}
use Rattle.law_once.proofs.Pending.{calls_anew, ends_idle, now_call, now_seek, pending, same_goes, seeks_anew, Asks, From, NoCall}

module _ (me : Node) where
  either_asks : (t : Bool) (c : ClientState) (a b : Step ClientState) → From me c a → From me c b → From me c (cond t a b)
  either_asks true c a b h k = h
  either_asks false c a b h k = k

  ends_seek : (c : ClientState) → Asks me (pending c) c.seats (record c { seeking = None }) []
  ends_seek c = record { epoch = refl; goes = inr (record { epoch = refl; last = refl; file = λ x h. h; seek = λ x h. absurd cc }); sent = tt; seats' = λ k. k }

  goes_asks : (c : ClientState) (front : List Line → List Line) (w : Walked) (need : Need) → From me c (goes_by me c front w need)
  goes_asks c front w (answers n) = ends_idle me c c refl refl refl w.cache
  goes_asks c front w (locates o) = seeks_anew me c c refl refl refl (record { act = w.act; operand = o; left = None }) w.cache
  goes_asks c front w need = calls_anew me c (record c { cache = w.cache }) refl refl refl w.act

  walks_asks : (c : ClientState) (clock : ℕ) (front : List Line → List Line) (act : Going) (cache : List CacheEntry) → From me c (walks_on me c clock front act cache)
  walks_asks c clock front act cache = let w : Walked = walked (most_reads act) clock act cache in goes_asks c front w (next w.act)

  gives_asks : (c : ClientState) (front : List Line → List Line) (act : Going) (gs : List Gift) → From me c (gives_by me c front act gs)
  gives_asks c front act [] = ends_idle me c c refl refl refl c.cache
  gives_asks c front act (g ∷ gs) = calls_anew me c (record c { gifts = g ∷ gs }) refl refl refl act

  -- ---- an act begins

  begins_asks : (c : ClientState) (clock : ℕ) (front : List Line → List Line) (act : Going) (need : Need) → From me c (begins_by me c clock front act need)
  begins_asks c clock front act gives_back =
      gives_asks (record c { cache = untrusted_in clock c.cache }) (λ ls. front (dropped me (trusted_in clock c.cache) ls)) act (in_order (map gift_of (trusted_in clock c.cache)))
  begins_asks c clock front act need = walks_asks c clock front act c.cache

  pub begun_asks : (c : ClientState) (clock : ℕ) (act : Act) → From me c (begin_row me c clock act)
  unfolding begin_row
  begun_asks c clock act = begins_asks (record c { busy = 0; moved = 0 }) clock (λ ls. lines.Begin me act ∷ ls) (began c.table act) (next (began c.table act))

  -- ---- replies

  again_asks : (c : ClientState) (place : ℕ) (act : Going) → From me c (calls_again me c place act)
  again_asks c place act = calls_anew me c c refl refl refl act

  ignores_asks : (c : ClientState) (place : ℕ) → From me c (ignores c place)
  ignores_asks c place = record { epoch = refl; goes = same_goes (pending c); sent = tt; seats' = λ k. k }

  plain_asks : (c : ClientState) (place : ℕ) (call : FsCall) → From me c (takes_plain me c place call)
  plain_asks c place call = ends_idle me c c refl refl refl (left_after call c.cache)

  answered_asks : (c : ClientState) (place : ℕ) (code : Code) → From me c (answers_step me c place code)
  answered_asks c place code = ends_idle me c c refl refl refl c.cache

  entry_asks : (c : ClientState) (clock place : ℕ) (act : Going) (e : CacheEntry) (body : ReadBody) → From me c (takes_entry me c clock place act e body)
  entry_asks c clock place act e body =
      either_asks (is_trusted clock e) c (walks_on me c clock (read_lines me place (look_at Fetched e body)) (with_read e.fid body act) (put_entry c.capacity e c.cache)) (calls_again me c place act)
      (walks_asks c clock (read_lines me place (look_at Fetched e body)) (with_read e.fid body act) (put_entry c.capacity e c.cache)) (again_asks c place act)

  entries_asks : (c : ClientState) (clock place : ℕ) (act : Going) (es : List CacheEntry) → From me c (takes_entries me c clock place act es)
  entries_asks c clock place act es =
      either_asks (list_any (λ e. not (is_trusted clock e)) es) c (calls_again me c place act) (walks_on me c clock (λ ls. with_given place (looked me (map status_look es) ls)) (with_statuses es act) (put_entries c.capacity es c.cache)) (again_asks c place act)
      (walks_asks c clock (λ ls. with_given place (looked me (map status_look es) ls)) (with_statuses es act) (put_entries c.capacity es c.cache))

  rights_asks : (c : ClientState) (clock place : ℕ) (act : Going) (f : Fid) (index release : ℕ) (text : List ℕ) → From me c (takes_rights me c clock place act f index release text)
  rights_asks c clock place act f index release text =
      walks_asks c clock (λ ls. read_lines me place (record { fid = f; index = index; source = Fetched; body = seen.AccessList text }) (dropped me (filter (is_older f index release) c.cache) ls)) (with_read f (seen.AccessList text) act)
      (filter (λ e. not (is_older f index release e)) c.cache)

  bytes_asks : (c : ClientState) (clock place : ℕ) (f : Fid) (status : AfsFetchStatus) (contents : List ℕ) (call : FsCall) → From me c (takes_bytes me c clock place f status contents call)
  bytes_asks c clock place f status contents call =
      either_asks c.spoiled c (takes_plain me c place call) (takes_stored me c clock place f status.sync_counter (status_told status) (λ body. Some (bodies.File contents))) (plain_asks c place call) (ends_idle me c c refl refl refl _)

  status_asks : (c : ClientState) (clock place : ℕ) (f : Fid) (status : AfsFetchStatus) (call : FsCall) → From me c (takes_status me c clock place f status call)
  status_asks c clock place f status call =
      either_asks (not c.spoiled && stands_below clock status.sync_counter (find_cached f c.cache)) c (takes_stored me c clock place f status.sync_counter (status_told status) (λ body. body)) (takes_plain me c place call) (ends_idle me c c refl refl refl _)
      (plain_asks c place call)

  data_asks : (c : ClientState) (clock place : ℕ) (act : Going) (contents : List ℕ) (status : AfsFetchStatus) (callback : AfsCallBack) (sync : AfsVolSync) (call : FsCall) → From me c (takes_data me c clock place act contents status callback sync call)
  data_asks c clock place act contents status callback sync (calls.FetchData f position wanted) = entry_asks c clock place act (cache_entry_told c.callee f status callback sync (Some (body_told status.file_type contents))) (seen.Contents (body_told status.file_type contents))
  data_asks c clock place act contents status callback sync call = plain_asks c place call

  shown_asks : (c : ClientState) (clock place : ℕ) (act : Going) (status : AfsFetchStatus) (callback : AfsCallBack) (sync : AfsVolSync) (call : FsCall) → From me c (takes_shown me c clock place act status callback sync call)
  shown_asks c clock place act status callback sync (calls.FetchStatus f) = entry_asks c clock place act (cache_entry_told c.callee f status callback sync None) (seen.Status (status_told status))
  shown_asks c clock place act status callback sync call = plain_asks c place call

  list_asks : (c : ClientState) (clock place : ℕ) (act : Going) (text : List ℕ) (status : AfsFetchStatus) (sync : AfsVolSync) (call : FsCall) → From me c (takes_list me c clock place act text status sync call)
  list_asks c clock place act text status sync (calls.FetchAcl f) = rights_asks c clock place act f status.sync_counter sync.release text
  list_asks c clock place act text status sync call = plain_asks c place call

  set_asks : (c : ClientState) (clock place : ℕ) (status : AfsFetchStatus) (call : FsCall) → From me c (takes_set me c clock place status call)
  set_asks c clock place status (calls.StoreData f set position wanted file_length contents) = bytes_asks c clock place f status contents (calls.StoreData f set position wanted file_length contents)
  set_asks c clock place status (calls.StoreAcl f acl) = status_asks c clock place f status (calls.StoreAcl f acl)
  set_asks c clock place status (calls.StoreStatus f set) = status_asks c clock place f status (calls.StoreStatus f set)
  set_asks c clock place status call = plain_asks c place call

  bulk_asks : (c : ClientState) (clock place : ℕ) (act : Going) (statuses : List AfsFetchStatus) (callbacks : List AfsCallBack) (sync : AfsVolSync) (call : FsCall) → From me c (takes_bulk me c clock place act statuses callbacks sync call)
  bulk_asks c clock place act statuses callbacks sync (calls.BulkStatus fids) = entries_asks c clock place act (entries_told c.callee sync fids statuses callbacks)
  bulk_asks c clock place act statuses callbacks sync call = plain_asks c place call

  back_asks : (c : ClientState) (place : ℕ) (act : Going) (call : FsCall) → From me c (takes_given me c place act call)
  back_asks c place act (calls.GiveUpCallBacks fids callbacks) = gives_asks c (with_given place) act (behind_batch c.gifts)
  back_asks c place act call = plain_asks c place call

  takes_asks : (c : ClientState) (clock place : ℕ) (act : Going) (call : FsCall) (reply : FsReply) → From me c (takes me c clock place act call reply)
  takes_asks c clock place act call (replies.FetchData contents status callback sync) = data_asks c clock place act contents status callback sync call
  takes_asks c clock place act call (replies.FetchAcl text status sync) = list_asks c clock place act text status sync call
  takes_asks c clock place act call (replies.FetchStatus status callback sync) = shown_asks c clock place act status callback sync call
  takes_asks c clock place act call (replies.BulkStatus statuses callbacks sync) = bulk_asks c clock place act statuses callbacks sync call
  takes_asks c clock place act call (replies.StoreData status sync) = set_asks c clock place status call
  takes_asks c clock place act call (replies.StoreAcl status sync) = set_asks c clock place status call
  takes_asks c clock place act call (replies.StoreStatus status sync) = set_asks c clock place status call
  takes_asks c clock place act call replies.GiveUpCallBacks = back_asks c place act call
  takes_asks c clock place act call reply = plain_asks c place call

  -- ---- refusals

  where_asks : (c : ClientState) (place : ℕ) (act : Going) (code : Code) (o : Option Operand) → From me c (asks_where me c place act code o)
  where_asks c place act code None = answered_asks c place code
  where_asks c place act code (Some o) = seeks_anew me c (record c { moved = c.moved + 1 }) refl refl refl _ c.cache

  refuses_asks : (c : ClientState) (place : ℕ) (act : Going) (code : Code) → From me c (refuses me c place act code)
  refuses_asks c place act code =
      either_asks (is_busy_code code && nat_lt c.busy most_busy) c (calls_again me (record c { busy = c.busy + 1 }) place act) (refuses_for_good me c place act code) (calls_anew me c (record c { busy = c.busy + 1 }) refl refl refl act)
      (either_asks (is_gone_code code && nat_lt c.moved most_moved) c (asks_where me c place act code (operand_in act (volume_asked (call_of c act)))) (answers_step me c place code) (where_asks c place act code (operand_in act (volume_asked (call_of c act)))) (answered_asks c place code))

  counts_asks : (c : ClientState) (clock place : ℕ) (act : Going) (head : Head) (x : Carried) → c.running ≡ Some act → From me c (counts me c clock place act head x)
  counts_asks c clock place act head (carried.Call user call) is = ignores_asks c place
  counts_asks c clock place act head (carried.Refusal code) is = either_asks (is_spent c act) c (calls_again me c place act) (refuses me c place act code) (again_asks c place act) (refuses_asks c place act code)
  counts_asks c clock place act head (carried.Reply (tell.File reply)) is = either_asks (is_spent c act) c (calls_again me c place act) (takes me c clock place act (call_of c act) reply) (again_asks c place act) (takes_asks c clock place act (call_of c act) reply)
  counts_asks c clock place act head (carried.Reply reply) is = ignores_asks c place
  counts_asks c clock place act head carried.Notice is = record { epoch = refl; goes = same_goes (pending c); sent = (λ call. now_call me (knows_boot c head.boot) act is, tt); seats' = λ k. k }

  awaits_asks : (c : ClientState) (clock place : ℕ) (head : Head) (x : Carried) (o : Option Going) → c.running ≡ o → From me c (awaits me c clock place head x o)
  awaits_asks c clock place head x None is = ignores_asks c place
  awaits_asks c clock place head x (Some act) is = either_asks (is_awaited c act head) c (counts me c clock place act head x) (ignores c place) (counts_asks c clock place act head x is) (ignores_asks c place)

  -- ---- calls of servers

  replies_asks : (c : ClientState) (place : ℕ) (head : Head) (ls : List Line) (reply : FsReply) → From me c (row.replies_step c place head ls (row.reply_carried reply))
  replies_asks c place head ls reply = record { epoch = refl; goes = same_goes (pending c); sent = (λ call. absurd call, tt); seats' = λ k. seated_is NoCall _ c.seats (λ call. call) k }

  refused_asks : (c : ClientState) (place : ℕ) (head : Head) → From me c (row.replies_step c place head [] (refused_with not_served))
  refused_asks c place head =
      record { epoch = refl; goes = same_goes (pending c); sent = (λ call. absurd call, tt); seats' = λ k. seated_is NoCall _ c.seats (λ call. call) k }

  breaks_asks : (c : ClientState) (place : ℕ) (head : Head) (call : FsCall) → From me c (breaks me c place head call)
  breaks_asks c place head (calls.CallBack fs callbacks) = record { epoch = refl; goes = same_goes (pending c); sent = (λ call. absurd call, tt); seats' = λ k. seated_is NoCall _ c.seats (λ call. call) k }
  breaks_asks c place head calls.InitCallBackState = record { epoch = refl; goes = same_goes (pending c); sent = (λ call. absurd call, tt); seats' = λ k. seated_is NoCall _ c.seats (λ call. call) k }
  breaks_asks c place head calls.Probe = replies_asks c place head [] replies.Probe
  breaks_asks c place head call = refused_asks c place head

  runs_asks : (c : ClientState) (place : ℕ) (head : Head) (x : Carried) → From me c (runs_carried me c place head x)
  runs_asks c place head (carried.Call user (ask.File call)) = breaks_asks c place head call
  runs_asks c place head (carried.Call user call) = refused_asks c place head
  runs_asks c place head x = ignores_asks c place

  admits_asks : (c : ClientState) (place : ℕ) (head : Head) (x : Carried) (o : Admitted Message) → AdmittedIs NoCall o → From me c (admits_call me c place head (whole head x) o)
  admits_asks c place head x pairs.runs h = runs_asks c place head x
  admits_asks c place head x (pairs.kept reply) h = record { epoch = refl; goes = same_goes (pending c); sent = (λ call. absurd (h call), tt); seats' = λ k. k }
  admits_asks c place head x pairs.in_progress h = ignores_asks c place
  admits_asks c place head x pairs.older h = ignores_asks c place
  admits_asks c place head x (pairs.wrong_boot boot) h = record { epoch = refl; goes = same_goes (pending c); sent = (λ call. absurd call, tt); seats' = λ k. k }

  hears_asks : (c : ClientState) (clock place : ℕ) (head : Head) (x : Carried) → SeatsAre NoCall c.seats → From me c (hears me c clock place head x)
  hears_asks c clock place head (carried.Call user call) h = admits_asks c place head (carried.Call user call) (admitted c.epoch c.seats head) (admitted_is NoCall c.epoch c.seats head h)
  hears_asks c clock place head x h = awaits_asks c clock place head x c.running refl

  told_by : (c : ClientState) (clock place : ℕ) (m : Message) (t : Bool) → SeatsAre NoCall c.seats → From me c (cond t (hears me c clock place m.head m.carried) (ignores c place))
  told_by c clock place m true h = hears_asks c clock place m.head m.carried h
  told_by c clock place m false h = ignores_asks c place

  told_asks : (c : ClientState) (clock place : ℕ) (m : Message) → SeatsAre NoCall c.seats → From me c (client_row me c clock place (Whole m))
  unfolding client_row
  told_asks c clock place m h = told_by c clock place m (same_node m.head.to me) h

  -- ---- answers of the location database

  ended_asks : (c : ClientState) (place : ℕ) (code : Code) → From me c (sought_ends me c (with_given place) code)
  ended_asks c place code = ends_seek c

  on_asks : (c : ClientState) (clock place : ℕ) (act : Going) (o : Option ℕ) → From me c (located_on me c clock place act o)
  on_asks c clock place act None = ended_asks c place row.no_entry_code
  on_asks c clock place act (Some id) = walks_asks c clock (with_given place) (filled c.table act) c.cache

  moved_asks : (c : ClientState) (place : ℕ) (act : Going) (left : Left) (o : Option ℕ) → From me c (moved_on me c place act left o)
  moved_asks c place act left None = ended_asks c place row.no_entry_code
  moved_asks c place act left (Some id) = either_asks (same_node (callee_of c act) left.server) c (sought_ends me c (with_given place) left.code) (calls_again me c place act) (ended_asks c place left.code) (again_asks c place act)

  located_asks : (c : ClientState) (clock place : ℕ) (k : Seek) (l : Location) (o : Option Left) → From me c (located me c clock place k l o)
  located_asks c clock place k l None = on_asks (knows_place l c) clock place k.act (volume_at (knows_place l c).table k.operand)
  located_asks c clock place k l (Some left) =
      either_asks (has_location l c.table) c (sought_ends me c (with_given place) left.code) (moved_on me (knows_place l c) place k.act left (volume_at (knows_place l c).table k.operand)) (ended_asks c place left.code)
      (moved_asks (knows_place l c) place k.act left (volume_at (knows_place l c).table k.operand))

  found_asks : (c : ClientState) (clock place : ℕ) (k : Seek) (o : Option LocEntry) → From me c (located_by me c clock place k o)
  found_asks c clock place k None = ignores_asks c place
  found_asks c clock place k (Some e) = located_asks c clock place k e k.left

  sought_asks : (c : ClientState) (clock place : ℕ) (k : Seek) (head : Head) (x : Carried) → c.seeking ≡ Some k → From me c (sought_by me c clock place k head x)
  sought_asks c clock place k head (carried.Refusal code) is = ended_asks c place code
  sought_asks c clock place k head (carried.Reply (tell.Location reply)) is = found_asks c clock place k (entry_in reply)
  sought_asks c clock place k head carried.Notice is = record { epoch = refl; goes = same_goes (pending c); sent = (λ call. now_seek me (record c { boots = with_boot Loc head.boot c.boots }) k is, tt); seats' = λ k. k }
  sought_asks c clock place k head x is = ignores_asks c place

  guest_by : (c : ClientState) (clock place : ℕ) (m : Message) (o : Option Seek) → c.seeking ≡ o → SeatsAre NoCall c.seats → From me c (sought_or me c clock place m o)
  guest_by c clock place m None is h = told_asks c clock place m h
  guest_by c clock place m (Some k) is h = either_asks (is_sought me c k m.head m.carried) c (sought_by me c clock place k m.head m.carried) (client_row me c clock place (Whole m)) (sought_asks c clock place k m.head m.carried is) (told_asks c clock place m h)

  pub guest_asks : (c : ClientState) (clock place : ℕ) (m : Message) → SeatsAre NoCall c.seats → From me c (guest_row me c clock place (Whole m))
  guest_asks c clock place m h = guest_by c clock place m c.seeking refl h

  -- ---- timeouts

  pub waited_asks : (c : ClientState) (act : Going) → c.running ≡ Some act → From me c (timeout_row me c act)
  waited_asks c act is =
      either_asks (is_sent_again c.tries) c (tries_again me c act) (gives_up me c (call_of c act)) (record { epoch = refl; goes = same_goes (pending c); sent = (λ call. now_call me c act is, tt); seats' = λ k. k })
      (ends_idle me c c refl refl refl _)

  pub missed_asks : (c : ClientState) (k : Seek) → c.seeking ≡ Some k → From me c (seek_timeout_row me c k)
  missed_asks c k is =
      either_asks (is_sent_again c.tries) c (seeks_on me c k) (sought_ends me c (λ ls. timeout_line me c last_timeout ∷ ls) dead_code) (record { epoch = refl; goes = same_goes (pending c); sent = (λ call. now_seek me c k is, tt); seats' = λ k. k }) (ends_seek c)
