-- The steps of clients: what they send and keep stays P, where what they make is.
use Rattle.std.proofs.Common.{◌≡◌, ℕ, ◌+◌, Bool, true, false, cond, List, [], ◌∷◌, map, filter, not, Option, Some, None, refl}
use Rattle.std.specs.Prelude.{◌&&◌, nat_lt}
use Rattle.std.specs.List.{list_any, AllByRecursion}
use Rattle.spec_history.specs.declared.acts.Act.{Act}
use Rattle.spec_history.specs.declared.acts.Operand.{Operand}
use Rattle.spec_history.specs.declared.lines.Line.{Line}
use Rattle.spec_history.specs.declared.lines.Line.TheVariants as lines
use Rattle.spec_model.specs.Calls as pairs
use Rattle.spec_model.specs.Calls.{admitted, is_sent_again, last_timeout, Admitted}
use Rattle.afs_num.specs.Nodes.{same_node}
use Rattle.afs_num.specs.declared.calls.AfsCallBack.{AfsCallBack}
use Rattle.afs_num.specs.declared.calls.AfsFetchStatus.{AfsFetchStatus}
use Rattle.afs_num.specs.declared.calls.AfsVolSync.{AfsVolSync}
use Rattle.afs_num.specs.declared.calls.FsCall.{FsCall}
use Rattle.afs_num.specs.declared.calls.FsCall.TheVariants as calls
use Rattle.afs_num.specs.declared.calls.FsReply.{FsReply}
use Rattle.afs_num.specs.declared.calls.FsReply.TheVariants as replies
use Rattle.afs_num.specs.declared.histories.Body.TheVariants as bodies
use Rattle.afs_num.specs.declared.histories.ReadBody.{ReadBody}
use Rattle.afs_num.specs.declared.histories.ReadBody.TheVariants as seen
use Rattle.afs_num.specs.declared.histories.ReadSource.TheVariants.{Fetched}
use Rattle.afs_num.specs.declared.location_calls.LocEntry.{LocEntry}
use Rattle.afs_num.specs.declared.messages.Call.TheVariants as ask
use Rattle.afs_num.specs.declared.messages.Carried.{Carried}
use Rattle.afs_num.specs.declared.messages.Carried.TheVariants as carried
use Rattle.afs_num.specs.declared.messages.Message.{Message}
use Rattle.afs_num.specs.declared.messages.Received.TheVariants.{Whole}
use Rattle.afs_num.specs.declared.messages.Reply.TheVariants as tell
use Rattle.afs_num.specs.declared.types.Code.{Code}
use Rattle.afs_num.specs.declared.types.Fid.{Fid}
use Rattle.afs_num.specs.declared.types.Head.{Head}
use Rattle.afs_num.specs.declared.types.Node.{Node}
use Rattle.spec_rows.specs.ClientRow as row
use Rattle.spec_rows.specs.ClientRow.{admits_call, refused_with, answers_step, asks_where, awaits, begin_row, begins_by, behind_batch, body_told, breaks, call_of, callee_of, calls_again, client_row, counts, dead_code, drop_line, dropped, dropped_after, entries_told, entry_in, cache_entry_told, find_cached, gift_of, with_given, given_up_in, gives_by, gives_up, goes_by, guest_row, has_location, hears, ignores, in_order, is_awaited, stands_below, is_busy_code, is_gone_code, is_older, is_sought, is_spent, is_trusted, knows_place, located, located_by, located_on, look_at, looked, most_busy, most_moved, most_reads, moved_on, put_entries, put_entry, read_lines, refuses, refuses_for_good, runs_carried, seek_timeout_row, seeks_on, sought_by, sought_ends, sought_or, status_look, status_told, takes, takes_bulk, takes_bytes, takes_data, takes_entries, takes_entry, takes_given, takes_list, takes_plain, takes_rights, takes_set, takes_shown, takes_status, takes_stored, timeout_line, timeout_row, tries_again, trusted_in, untrusted_in, volume_asked, walked, walks_on, whole, with_statuses, Look, Walked}
use Rattle.spec_rows.specs.Going.{answers, began, filled, gives_back, locates, next, operand_in, volume_at, with_read, ClientState, Going, Left, Need, Seek}
use Rattle.spec_rows.specs.ServerRow.{not_served}
use Rattle.spec_rows.specs.States.{CacheEntry, Gift, Location, Seat}
use Rattle.spec_rows.specs.Steps.{Step}
use Rattle.law_walks.specs.Sends.{AdmittedIs, ClientMakes, IsTo, SeatsAre}
use Rattle.law_walks.proofs.Seats.{admitted_is, seated_is}

-- With these kept replies before it. What it keeps behind it stays P where they are.
pub record Sends (P : Message → Type 0) (seats : List Seat) (s : Step ClientState) : Type 0 where
  pub sent : AllByRecursion P s.sent
  pub seats' : SeatsAre P seats → SeatsAre P s.state.seats

module _ (P : Message → Type 0) (me : Node) (makes : ClientMakes P me) where
  either_sends : (t : Bool) (seats : List Seat) (a b : Step ClientState) → Sends P seats a → Sends P seats b → Sends P seats (cond t a b)
  either_sends true seats a b h k = h
  either_sends false seats a b h k = k

  goes_sends : (c : ClientState) (front : List Line → List Line) (w : Walked) (need : Need) → Sends P c.seats (goes_by me c front w need)
  goes_sends c front w (answers n) = record { sent = tt; seats' = λ k. k }
  goes_sends c front w (locates o) = record { sent = (makes.look _ _ _ refl refl, tt); seats' = λ k. k }
  goes_sends c front w need = record { sent = (makes.call _ _ _ refl refl, tt); seats' = λ k. k }

  walks_sends : (c : ClientState) (clock : ℕ) (front : List Line → List Line) (act : Going) (cache : List CacheEntry) → Sends P c.seats (walks_on me c clock front act cache)
  walks_sends c clock front act cache = let w : Walked = walked (most_reads act) clock act cache in goes_sends c front w (next w.act)

  gives_sends : (c : ClientState) (front : List Line → List Line) (act : Going) (gs : List Gift) → Sends P c.seats (gives_by me c front act gs)
  gives_sends c front act [] = record { sent = tt; seats' = λ k. k }
  gives_sends c front act (g ∷ gs) = record { sent = (makes.call _ _ _ refl refl, tt); seats' = λ k. k }

  -- ---- an act begins

  begins_sends : (c : ClientState) (clock : ℕ) (front : List Line → List Line) (act : Going) (need : Need) → Sends P c.seats (begins_by me c clock front act need)
  begins_sends c clock front act gives_back =
      gives_sends (record c { cache = untrusted_in clock c.cache }) (λ ls. front (dropped me (trusted_in clock c.cache) ls)) act (in_order (map gift_of (trusted_in clock c.cache)))
  begins_sends c clock front act need = walks_sends c clock front act c.cache

  pub begun_sends : (c : ClientState) (clock : ℕ) (act : Act) → Sends P c.seats (begin_row me c clock act)
  unfolding begin_row
  begun_sends c clock act = begins_sends (record c { busy = 0; moved = 0 }) clock (λ ls. lines.Begin me act ∷ ls) (began c.table act) (next (began c.table act))

  -- ---- replies

  again_sends : (c : ClientState) (place : ℕ) (act : Going) → Sends P c.seats (calls_again me c place act)
  again_sends c place act = record { sent = (makes.call _ _ _ refl refl, tt); seats' = λ k. k }

  ignores_sends : (c : ClientState) (place : ℕ) → Sends P c.seats (ignores c place)
  ignores_sends c place = record { sent = tt; seats' = λ k. k }

  plain_sends : (c : ClientState) (place : ℕ) (call : FsCall) → Sends P c.seats (takes_plain me c place call)
  plain_sends c place call = record { sent = tt; seats' = λ k. k }

  answered_sends : (c : ClientState) (place : ℕ) (code : Code) → Sends P c.seats (answers_step me c place code)
  answered_sends c place code = record { sent = tt; seats' = λ k. k }

  entry_sends : (c : ClientState) (clock place : ℕ) (act : Going) (e : CacheEntry) (body : ReadBody) → Sends P c.seats (takes_entry me c clock place act e body)
  entry_sends c clock place act e body =
      either_sends (is_trusted clock e) c.seats (walks_on me c clock (read_lines me place (look_at Fetched e body)) (with_read e.fid body act) (put_entry c.capacity e c.cache)) (calls_again me c place act)
      (walks_sends c clock (read_lines me place (look_at Fetched e body)) (with_read e.fid body act) (put_entry c.capacity e c.cache)) (again_sends c place act)

  entries_sends : (c : ClientState) (clock place : ℕ) (act : Going) (es : List CacheEntry) → Sends P c.seats (takes_entries me c clock place act es)
  entries_sends c clock place act es =
      either_sends (list_any (λ e. not (is_trusted clock e)) es) c.seats (calls_again me c place act) (walks_on me c clock (λ ls. with_given place (looked me (map status_look es) ls)) (with_statuses es act) (put_entries c.capacity es c.cache)) (again_sends c place act)
      (walks_sends c clock (λ ls. with_given place (looked me (map status_look es) ls)) (with_statuses es act) (put_entries c.capacity es c.cache))

  rights_sends : (c : ClientState) (clock place : ℕ) (act : Going) (f : Fid) (index release : ℕ) (text : List ℕ) → Sends P c.seats (takes_rights me c clock place act f index release text)
  rights_sends c clock place act f index release text =
      walks_sends c clock (λ ls. read_lines me place (record { fid = f; index = index; source = Fetched; body = seen.AccessList text }) (dropped me (filter (is_older f index release) c.cache) ls)) (with_read f (seen.AccessList text) act)
      (filter (λ e. not (is_older f index release e)) c.cache)

  bytes_sends : (c : ClientState) (clock place : ℕ) (f : Fid) (status : AfsFetchStatus) (contents : List ℕ) (call : FsCall) → Sends P c.seats (takes_bytes me c clock place f status contents call)
  bytes_sends c clock place f status contents call =
      either_sends c.spoiled c.seats (takes_plain me c place call) (takes_stored me c clock place f status.sync_counter (status_told status) (λ body. Some (bodies.File contents))) (plain_sends c place call) (record { sent = tt; seats' = λ k. k })

  status_sends : (c : ClientState) (clock place : ℕ) (f : Fid) (status : AfsFetchStatus) (call : FsCall) → Sends P c.seats (takes_status me c clock place f status call)
  status_sends c clock place f status call =
      either_sends (not c.spoiled && stands_below clock status.sync_counter (find_cached f c.cache)) c.seats (takes_stored me c clock place f status.sync_counter (status_told status) (λ body. body)) (takes_plain me c place call) (record { sent = tt; seats' = λ k. k })
      (plain_sends c place call)

  data_sends : (c : ClientState) (clock place : ℕ) (act : Going) (contents : List ℕ) (status : AfsFetchStatus) (callback : AfsCallBack) (sync : AfsVolSync) (call : FsCall) → Sends P c.seats (takes_data me c clock place act contents status callback sync call)
  data_sends c clock place act contents status callback sync (calls.FetchData f position wanted) = entry_sends c clock place act (cache_entry_told c.callee f status callback sync (Some (body_told status.file_type contents))) (seen.Contents (body_told status.file_type contents))
  data_sends c clock place act contents status callback sync call = plain_sends c place call

  shown_sends : (c : ClientState) (clock place : ℕ) (act : Going) (status : AfsFetchStatus) (callback : AfsCallBack) (sync : AfsVolSync) (call : FsCall) → Sends P c.seats (takes_shown me c clock place act status callback sync call)
  shown_sends c clock place act status callback sync (calls.FetchStatus f) = entry_sends c clock place act (cache_entry_told c.callee f status callback sync None) (seen.Status (status_told status))
  shown_sends c clock place act status callback sync call = plain_sends c place call

  list_sends : (c : ClientState) (clock place : ℕ) (act : Going) (text : List ℕ) (status : AfsFetchStatus) (sync : AfsVolSync) (call : FsCall) → Sends P c.seats (takes_list me c clock place act text status sync call)
  list_sends c clock place act text status sync (calls.FetchAcl f) = rights_sends c clock place act f status.sync_counter sync.release text
  list_sends c clock place act text status sync call = plain_sends c place call

  set_sends : (c : ClientState) (clock place : ℕ) (status : AfsFetchStatus) (call : FsCall) → Sends P c.seats (takes_set me c clock place status call)
  set_sends c clock place status (calls.StoreData f set position wanted file_length contents) = bytes_sends c clock place f status contents (calls.StoreData f set position wanted file_length contents)
  set_sends c clock place status (calls.StoreAcl f acl) = status_sends c clock place f status (calls.StoreAcl f acl)
  set_sends c clock place status (calls.StoreStatus f set) = status_sends c clock place f status (calls.StoreStatus f set)
  set_sends c clock place status call = plain_sends c place call

  bulk_sends : (c : ClientState) (clock place : ℕ) (act : Going) (statuses : List AfsFetchStatus) (callbacks : List AfsCallBack) (sync : AfsVolSync) (call : FsCall) → Sends P c.seats (takes_bulk me c clock place act statuses callbacks sync call)
  bulk_sends c clock place act statuses callbacks sync (calls.BulkStatus fids) = entries_sends c clock place act (entries_told c.callee sync fids statuses callbacks)
  bulk_sends c clock place act statuses callbacks sync call = plain_sends c place call

  back_sends : (c : ClientState) (place : ℕ) (act : Going) (call : FsCall) → Sends P c.seats (takes_given me c place act call)
  back_sends c place act (calls.GiveUpCallBacks fids callbacks) = gives_sends c (with_given place) act (behind_batch c.gifts)
  back_sends c place act call = plain_sends c place call

  takes_sends : (c : ClientState) (clock place : ℕ) (act : Going) (call : FsCall) (reply : FsReply) → Sends P c.seats (takes me c clock place act call reply)
  takes_sends c clock place act call (replies.FetchData contents status callback sync) = data_sends c clock place act contents status callback sync call
  takes_sends c clock place act call (replies.FetchAcl text status sync) = list_sends c clock place act text status sync call
  takes_sends c clock place act call (replies.FetchStatus status callback sync) = shown_sends c clock place act status callback sync call
  takes_sends c clock place act call (replies.BulkStatus statuses callbacks sync) = bulk_sends c clock place act statuses callbacks sync call
  takes_sends c clock place act call (replies.StoreData status sync) = set_sends c clock place status call
  takes_sends c clock place act call (replies.StoreAcl status sync) = set_sends c clock place status call
  takes_sends c clock place act call (replies.StoreStatus status sync) = set_sends c clock place status call
  takes_sends c clock place act call replies.GiveUpCallBacks = back_sends c place act call
  takes_sends c clock place act call reply = plain_sends c place call

  -- ---- refusals

  where_sends : (c : ClientState) (place : ℕ) (act : Going) (code : Code) (o : Option Operand) → Sends P c.seats (asks_where me c place act code o)
  where_sends c place act code None = answered_sends c place code
  where_sends c place act code (Some o) = record { sent = (makes.look _ _ _ refl refl, tt); seats' = λ k. k }

  refuses_sends : (c : ClientState) (place : ℕ) (act : Going) (code : Code) → Sends P c.seats (refuses me c place act code)
  refuses_sends c place act code =
      either_sends (is_busy_code code && nat_lt c.busy most_busy) c.seats (calls_again me (record c { busy = c.busy + 1 }) place act) (refuses_for_good me c place act code) (record { sent = (makes.call _ _ _ refl refl, tt); seats' = λ k. k })
      (either_sends (is_gone_code code && nat_lt c.moved most_moved) c.seats (asks_where me c place act code (operand_in act (volume_asked (call_of c act)))) (answers_step me c place code) (where_sends c place act code (operand_in act (volume_asked (call_of c act)))) (answered_sends c place code))

  counts_sends : (c : ClientState) (clock place : ℕ) (act : Going) (head : Head) (x : Carried) → Sends P c.seats (counts me c clock place act head x)
  counts_sends c clock place act head (carried.Call user call) = ignores_sends c place
  counts_sends c clock place act head (carried.Refusal code) = either_sends (is_spent c act) c.seats (calls_again me c place act) (refuses me c place act code) (again_sends c place act) (refuses_sends c place act code)
  counts_sends c clock place act head (carried.Reply (tell.File reply)) = either_sends (is_spent c act) c.seats (calls_again me c place act) (takes me c clock place act (call_of c act) reply) (again_sends c place act) (takes_sends c clock place act (call_of c act) reply)
  counts_sends c clock place act head (carried.Reply reply) = ignores_sends c place
  counts_sends c clock place act head carried.Notice = record { sent = (makes.call _ _ _ refl refl, tt); seats' = λ k. k }

  awaits_sends : (c : ClientState) (clock place : ℕ) (head : Head) (x : Carried) (o : Option Going) → Sends P c.seats (awaits me c clock place head x o)
  awaits_sends c clock place head x None = ignores_sends c place
  awaits_sends c clock place head x (Some act) = either_sends (is_awaited c act head) c.seats (counts me c clock place act head x) (ignores c place) (counts_sends c clock place act head x) (ignores_sends c place)

  -- ---- calls of servers

  replies_sends : (c : ClientState) (place : ℕ) (head : Head) (ls : List Line) (reply : FsReply) → IsTo me head → Sends P c.seats (row.replies_step c place head ls (row.reply_carried reply))
  replies_sends c place head ls reply to = record { sent = (makes.reply c.epoch head reply to, tt); seats' = λ k. seated_is P _ c.seats (makes.reply c.epoch head reply to) k }

  refused_sends : (c : ClientState) (place : ℕ) (head : Head) → IsTo me head → Sends P c.seats (row.replies_step c place head [] (refused_with not_served))
  refused_sends c place head to =
      record { sent = ((makes.answers c.epoch).refusal head _ to, tt); seats' = λ k. seated_is P _ c.seats ((makes.answers c.epoch).refusal head _ to) k }

  breaks_sends : (c : ClientState) (place : ℕ) (head : Head) (call : FsCall) → IsTo me head → Sends P c.seats (breaks me c place head call)
  breaks_sends c place head (calls.CallBack fs callbacks) to = record { sent = (makes.reply c.epoch head _ to, tt); seats' = λ k. seated_is P _ c.seats (makes.reply c.epoch head _ to) k }
  breaks_sends c place head calls.InitCallBackState to = record { sent = (makes.reply c.epoch head _ to, tt); seats' = λ k. seated_is P _ c.seats (makes.reply c.epoch head _ to) k }
  breaks_sends c place head calls.Probe to = replies_sends c place head [] replies.Probe to
  breaks_sends c place head call to = refused_sends c place head to

  runs_sends : (c : ClientState) (place : ℕ) (head : Head) (x : Carried) → IsTo me head → Sends P c.seats (runs_carried me c place head x)
  runs_sends c place head (carried.Call user (ask.File call)) to = breaks_sends c place head call to
  runs_sends c place head (carried.Call user call) to = refused_sends c place head to
  runs_sends c place head x to = ignores_sends c place

  admits_sends : (c : ClientState) (place : ℕ) (head : Head) (x : Carried) (o : Admitted Message) → IsTo me head → AdmittedIs P o → Sends P c.seats (admits_call me c place head (whole head x) o)
  admits_sends c place head x pairs.runs to h = runs_sends c place head x to
  admits_sends c place head x (pairs.kept reply) to h = record { sent = (h, tt); seats' = λ k. k }
  admits_sends c place head x pairs.in_progress to h = ignores_sends c place
  admits_sends c place head x pairs.older to h = ignores_sends c place
  admits_sends c place head x (pairs.wrong_boot boot) to h = record { sent = ((makes.answers c.epoch).notice head to, tt); seats' = λ k. k }

  hears_sends : (c : ClientState) (clock place : ℕ) (head : Head) (x : Carried) → IsTo me head → SeatsAre P c.seats → Sends P c.seats (hears me c clock place head x)
  hears_sends c clock place head (carried.Call user call) to h = admits_sends c place head (carried.Call user call) (admitted c.epoch c.seats head) to (admitted_is P c.epoch c.seats head h)
  hears_sends c clock place head x to h = awaits_sends c clock place head x c.running

  told_by : (c : ClientState) (clock place : ℕ) (m : Message) (t : Bool) → same_node m.head.to me ≡ t → SeatsAre P c.seats → Sends P c.seats (cond t (hears me c clock place m.head m.carried) (ignores c place))
  told_by c clock place m true to h = hears_sends c clock place m.head m.carried to h
  told_by c clock place m false to h = ignores_sends c place

  told_sends : (c : ClientState) (clock place : ℕ) (m : Message) → SeatsAre P c.seats → Sends P c.seats (client_row me c clock place (Whole m))
  unfolding client_row
  told_sends c clock place m h = told_by c clock place m (same_node m.head.to me) refl h

  -- ---- answers of the location database

  ended_sends : (c : ClientState) (place : ℕ) (code : Code) → Sends P c.seats (sought_ends me c (with_given place) code)
  ended_sends c place code = record { sent = tt; seats' = λ k. k }

  on_sends : (c : ClientState) (clock place : ℕ) (act : Going) (o : Option ℕ) → Sends P c.seats (located_on me c clock place act o)
  on_sends c clock place act None = ended_sends c place _
  on_sends c clock place act (Some id) = walks_sends c clock (with_given place) (filled c.table act) c.cache

  moved_sends : (c : ClientState) (place : ℕ) (act : Going) (left : Left) (o : Option ℕ) → Sends P c.seats (moved_on me c place act left o)
  moved_sends c place act left None = ended_sends c place _
  moved_sends c place act left (Some id) = either_sends (same_node (callee_of c act) left.server) c.seats (sought_ends me c (with_given place) left.code) (calls_again me c place act) (ended_sends c place left.code) (again_sends c place act)

  located_sends : (c : ClientState) (clock place : ℕ) (k : Seek) (l : Location) (o : Option Left) → Sends P c.seats (located me c clock place k l o)
  located_sends c clock place k l None = on_sends (knows_place l c) clock place k.act (volume_at (knows_place l c).table k.operand)
  located_sends c clock place k l (Some left) =
      either_sends (has_location l c.table) c.seats (sought_ends me c (with_given place) left.code) (moved_on me (knows_place l c) place k.act left (volume_at (knows_place l c).table k.operand)) (ended_sends c place left.code)
      (moved_sends (knows_place l c) place k.act left (volume_at (knows_place l c).table k.operand))

  found_sends : (c : ClientState) (clock place : ℕ) (k : Seek) (o : Option LocEntry) → Sends P c.seats (located_by me c clock place k o)
  found_sends c clock place k None = ignores_sends c place
  found_sends c clock place k (Some e) = located_sends c clock place k e k.left

  sought_sends : (c : ClientState) (clock place : ℕ) (k : Seek) (head : Head) (x : Carried) → Sends P c.seats (sought_by me c clock place k head x)
  sought_sends c clock place k head (carried.Refusal code) = ended_sends c place code
  sought_sends c clock place k head (carried.Reply (tell.Location reply)) = found_sends c clock place k (entry_in reply)
  sought_sends c clock place k head carried.Notice = record { sent = (makes.look _ _ _ refl refl, tt); seats' = λ k. k }
  sought_sends c clock place k head x = ignores_sends c place

  guest_by : (c : ClientState) (clock place : ℕ) (m : Message) (o : Option Seek) → SeatsAre P c.seats → Sends P c.seats (sought_or me c clock place m o)
  guest_by c clock place m None h = told_sends c clock place m h
  guest_by c clock place m (Some k) h = either_sends (is_sought me c k m.head m.carried) c.seats (sought_by me c clock place k m.head m.carried) (client_row me c clock place (Whole m)) (sought_sends c clock place k m.head m.carried) (told_sends c clock place m h)

  pub guest_sends : (c : ClientState) (clock place : ℕ) (m : Message) → SeatsAre P c.seats → Sends P c.seats (guest_row me c clock place (Whole m))
  guest_sends c clock place m h = guest_by c clock place m c.seeking h

  -- ---- timeouts

  pub waited_sends : (c : ClientState) (act : Going) → Sends P c.seats (timeout_row me c act)
  waited_sends c act =
      either_sends (is_sent_again c.tries) c.seats (tries_again me c act) (gives_up me c (call_of c act)) (record { sent = (makes.call _ _ _ refl refl, tt); seats' = λ k. k })
      (record { sent = tt; seats' = λ k. k })

  pub missed_sends : (c : ClientState) (k : Seek) → Sends P c.seats (seek_timeout_row me c k)
  missed_sends c k =
      either_sends (is_sent_again c.tries) c.seats (seeks_on me c k) (sought_ends me c (λ ls. timeout_line me c last_timeout ∷ ls) dead_code) (record { sent = (makes.look _ _ _ refl refl, tt); seats' = λ k. k }) (record { sent = tt; seats' = λ k. k })
