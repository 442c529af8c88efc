-- The steps of clients: what they tell those that call them is what they kept, or what the call that runs makes. All else that they send are calls.
use Rattle.std.proofs.Common.{◌≡◌, ℕ, ◌+◌, inl, inr, Bool, true, false, cond, List, [], ◌∷◌, ◌++◌, map, filter, not, Option, Some, None, refl, sym, ap, subst}
use Rattle.std.specs.Prelude.{⊤, ◌&&◌, nat_lt}
use Rattle.std.specs.List.{list_any, AllByRecursion}
use Rattle.spec_history.specs.declared.acts.Act.{Act}
use Rattle.spec_history.specs.declared.acts.Operand.{Operand}
use Rattle.spec_history.specs.declared.lines.Line.{Line}
use Rattle.spec_history.specs.declared.lines.Line.TheVariants as lines
use Rattle.spec_model.proofs.Basics.{same_node-true}
use Rattle.spec_model.specs.Calls as pairs
use Rattle.spec_model.specs.Calls.{admitted, is_sent_again, last_timeout, Admitted}
use Rattle.afs_num.specs.Nodes.{same_node}
use Rattle.afs_num.specs.declared.calls.AfsCallBack.{AfsCallBack}
use Rattle.afs_num.specs.declared.calls.AfsFetchStatus.{AfsFetchStatus}
use Rattle.afs_num.specs.declared.calls.AfsVolSync.{AfsVolSync}
use Rattle.afs_num.specs.declared.calls.FsCall.{FsCall}
use Rattle.afs_num.specs.declared.calls.FsCall.TheVariants as calls
use Rattle.afs_num.specs.declared.calls.FsReply.{FsReply}
use Rattle.afs_num.specs.declared.calls.FsReply.TheVariants as replies
use Rattle.afs_num.specs.declared.histories.Body.TheVariants as bodies
use Rattle.afs_num.specs.declared.histories.ReadBody.{ReadBody}
use Rattle.afs_num.specs.declared.histories.ReadBody.TheVariants as seen
use Rattle.afs_num.specs.declared.histories.ReadSource.TheVariants.{Fetched}
use Rattle.afs_num.specs.declared.location_calls.LocEntry.{LocEntry}
use Rattle.afs_num.specs.declared.messages.Call.TheVariants as ask
use Rattle.afs_num.specs.declared.messages.Carried.{Carried}
use Rattle.afs_num.specs.declared.messages.Carried.TheVariants as carried
use Rattle.afs_num.specs.declared.messages.Message.{Message}
use Rattle.afs_num.specs.declared.messages.Received.TheVariants.{Whole}
use Rattle.afs_num.specs.declared.messages.Reply.TheVariants as tell
use Rattle.afs_num.specs.declared.types.Code.{Code}
use Rattle.afs_num.specs.declared.types.Fid.{Fid}
use Rattle.afs_num.specs.declared.types.Fid.{Fid}
use Rattle.afs_num.specs.declared.types.Head.{Head}
use Rattle.afs_num.specs.declared.types.Node.{Node}
use Rattle.spec_rows.specs.ClientRow as row
use Rattle.spec_rows.specs.ClientRow.{admits_call, refused_with, answers_step, asks_where, awaits, begin_row, begins_by, behind_batch, body_told, breaks, call_of, callee_of, calls_again, client_row, counts, dead_code, drop_line, dropped, dropped_after, entries_told, entry_in, cache_entry_told, find_cached, gift_of, with_given, given_up_in, gives_by, gives_up, goes_by, guest_row, has_location, hears, ignores, in_order, is_awaited, stands_below, is_busy_code, is_gone_code, is_older, is_sought, is_spent, is_trusted, knows_place, located, located_by, located_on, look_at, looked, most_busy, most_moved, most_reads, moved_on, put_entries, put_entry, read_lines, refuses, refuses_for_good, runs_carried, seek_timeout_row, seeks_on, sought_by, sought_ends, sought_or, status_look, status_told, takes, takes_bulk, takes_bytes, takes_data, takes_entries, takes_entry, takes_given, takes_list, takes_plain, takes_rights, takes_set, takes_shown, takes_status, takes_stored, timeout_line, timeout_row, tries_again, trusted_in, untrusted_in, volume_asked, walked, walks_on, whole, with_statuses, Look, Walked}
use Rattle.spec_rows.specs.Going.{answers, began, filled, gives_back, locates, next, operand_in, volume_at, with_read, ClientState, Going, Left, Need, Seek}
use Rattle.spec_rows.specs.ServerRow.{not_served, replied, seat_for}
use Rattle.spec_rows.specs.States.{CacheEntry, Gift, Location, Seat}
use Rattle.spec_rows.specs.Steps.{Step}
use Rattle.law_legal.specs.Breaks.{CarriesBreak, HasDrop, IsNamedIn, NamesIn}
use Rattle.law_legal.specs.Past.{HasCode, IsCall}
use Rattle.law_walks.specs.Sends.{AdmittedIs, SeatsAre}
use Rattle.law_walks.proofs.Seats.{admitted_is, seated_is}

-- ---- steps that answer nobody

-- it tells nobody a code
abbrev pub IsAsk : Message → Type 0
IsAsk m = HasCode m.carried → ⊥

-- it sends calls alone, and what is kept for callers stays
pub record Asks (seats : List Seat) (s : Step ClientState) : Type 0 where
  pub sent : AllByRecursion IsAsk s.sent
  pub same : s.state.seats ≡ seats

module _ (me : Node) where
  either_asks : (t : Bool) (seats : List Seat) (a b : Step ClientState) → Asks seats a → Asks seats b → Asks seats (cond t a b)
  either_asks true seats a b h k = h
  either_asks false seats a b h k = k

  goes_asks : (c : ClientState) (front : List Line → List Line) (w : Walked) (need : Need) → Asks c.seats (goes_by me c front w need)
  goes_asks c front w (answers n) = record { sent = tt; same = refl }
  goes_asks c front w (locates o) = record { sent = ((λ x. x), tt); same = refl }
  goes_asks c front w need = record { sent = ((λ x. x), tt); same = refl }

  walks_asks : (c : ClientState) (clock : ℕ) (front : List Line → List Line) (act : Going) (cache : List CacheEntry) → Asks c.seats (walks_on me c clock front act cache)
  walks_asks c clock front act cache = let w : Walked = walked (most_reads act) clock act cache in goes_asks c front w (next w.act)

  gives_asks : (c : ClientState) (front : List Line → List Line) (act : Going) (gs : List Gift) → Asks c.seats (gives_by me c front act gs)
  gives_asks c front act [] = record { sent = tt; same = refl }
  gives_asks c front act (g ∷ gs) = record { sent = ((λ x. x), tt); same = refl }

  -- ---- an act begins

  begins_asks : (c : ClientState) (clock : ℕ) (front : List Line → List Line) (act : Going) (need : Need) → Asks c.seats (begins_by me c clock front act need)
  begins_asks c clock front act gives_back =
      gives_asks (record c { cache = untrusted_in clock c.cache }) (λ ls. front (dropped me (trusted_in clock c.cache) ls)) act (in_order (map gift_of (trusted_in clock c.cache)))
  begins_asks c clock front act need = walks_asks c clock front act c.cache

  pub begun_asks : (c : ClientState) (clock : ℕ) (act : Act) → Asks c.seats (begin_row me c clock act)
  unfolding begin_row
  begun_asks c clock act = begins_asks (record c { busy = 0; moved = 0 }) clock (λ ls. lines.Begin me act ∷ ls) (began c.table act) (next (began c.table act))

  -- ---- replies

  again_asks : (c : ClientState) (place : ℕ) (act : Going) → Asks c.seats (calls_again me c place act)
  again_asks c place act = record { sent = ((λ x. x), tt); same = refl }

  ignores_asks : (c : ClientState) (place : ℕ) → Asks c.seats (ignores c place)
  ignores_asks c place = record { sent = tt; same = refl }

  plain_asks : (c : ClientState) (place : ℕ) (call : FsCall) → Asks c.seats (takes_plain me c place call)
  plain_asks c place call = record { sent = tt; same = refl }

  answered_asks : (c : ClientState) (place : ℕ) (code : Code) → Asks c.seats (answers_step me c place code)
  answered_asks c place code = record { sent = tt; same = refl }

  entry_asks : (c : ClientState) (clock place : ℕ) (act : Going) (e : CacheEntry) (body : ReadBody) → Asks c.seats (takes_entry me c clock place act e body)
  entry_asks c clock place act e body =
      either_asks (is_trusted clock e) c.seats (walks_on me c clock (read_lines me place (look_at Fetched e body)) (with_read e.fid body act) (put_entry c.capacity e c.cache)) (calls_again me c place act)
      (walks_asks c clock (read_lines me place (look_at Fetched e body)) (with_read e.fid body act) (put_entry c.capacity e c.cache)) (again_asks c place act)

  entries_asks : (c : ClientState) (clock place : ℕ) (act : Going) (es : List CacheEntry) → Asks c.seats (takes_entries me c clock place act es)
  entries_asks c clock place act es =
      either_asks (list_any (λ e. not (is_trusted clock e)) es) c.seats (calls_again me c place act) (walks_on me c clock (λ ls. with_given place (looked me (map status_look es) ls)) (with_statuses es act) (put_entries c.capacity es c.cache)) (again_asks c place act)
      (walks_asks c clock (λ ls. with_given place (looked me (map status_look es) ls)) (with_statuses es act) (put_entries c.capacity es c.cache))

  rights_asks : (c : ClientState) (clock place : ℕ) (act : Going) (f : Fid) (index release : ℕ) (text : List ℕ) → Asks c.seats (takes_rights me c clock place act f index release text)
  rights_asks c clock place act f index release text =
      walks_asks c clock (λ ls. read_lines me place (record { fid = f; index = index; source = Fetched; body = seen.AccessList text }) (dropped me (filter (is_older f index release) c.cache) ls)) (with_read f (seen.AccessList text) act)
      (filter (λ e. not (is_older f index release e)) c.cache)

  bytes_asks : (c : ClientState) (clock place : ℕ) (f : Fid) (status : AfsFetchStatus) (contents : List ℕ) (call : FsCall) → Asks c.seats (takes_bytes me c clock place f status contents call)
  bytes_asks c clock place f status contents call =
      either_asks c.spoiled c.seats (takes_plain me c place call) (takes_stored me c clock place f status.sync_counter (status_told status) (λ body. Some (bodies.File contents))) (plain_asks c place call) (record { sent = tt; same = refl })

  status_asks : (c : ClientState) (clock place : ℕ) (f : Fid) (status : AfsFetchStatus) (call : FsCall) → Asks c.seats (takes_status me c clock place f status call)
  status_asks c clock place f status call =
      either_asks (not c.spoiled && stands_below clock status.sync_counter (find_cached f c.cache)) c.seats (takes_stored me c clock place f status.sync_counter (status_told status) (λ body. body)) (takes_plain me c place call) (record { sent = tt; same = refl })
      (plain_asks c place call)

  data_asks : (c : ClientState) (clock place : ℕ) (act : Going) (contents : List ℕ) (status : AfsFetchStatus) (callback : AfsCallBack) (sync : AfsVolSync) (call : FsCall) → Asks c.seats (takes_data me c clock place act contents status callback sync call)
  data_asks c clock place act contents status callback sync (calls.FetchData f position wanted) = entry_asks c clock place act (cache_entry_told c.callee f status callback sync (Some (body_told status.file_type contents))) (seen.Contents (body_told status.file_type contents))
  data_asks c clock place act contents status callback sync call = plain_asks c place call

  shown_asks : (c : ClientState) (clock place : ℕ) (act : Going) (status : AfsFetchStatus) (callback : AfsCallBack) (sync : AfsVolSync) (call : FsCall) → Asks c.seats (takes_shown me c clock place act status callback sync call)
  shown_asks c clock place act status callback sync (calls.FetchStatus f) = entry_asks c clock place act (cache_entry_told c.callee f status callback sync None) (seen.Status (status_told status))
  shown_asks c clock place act status callback sync call = plain_asks c place call

  list_asks : (c : ClientState) (clock place : ℕ) (act : Going) (text : List ℕ) (status : AfsFetchStatus) (sync : AfsVolSync) (call : FsCall) → Asks c.seats (takes_list me c clock place act text status sync call)
  list_asks c clock place act text status sync (calls.FetchAcl f) = rights_asks c clock place act f status.sync_counter sync.release text
  list_asks c clock place act text status sync call = plain_asks c place call

  set_asks : (c : ClientState) (clock place : ℕ) (status : AfsFetchStatus) (call : FsCall) → Asks c.seats (takes_set me c clock place status call)
  set_asks c clock place status (calls.StoreData f set position wanted file_length contents) = bytes_asks c clock place f status contents (calls.StoreData f set position wanted file_length contents)
  set_asks c clock place status (calls.StoreAcl f acl) = status_asks c clock place f status (calls.StoreAcl f acl)
  set_asks c clock place status (calls.StoreStatus f set) = status_asks c clock place f status (calls.StoreStatus f set)
  set_asks c clock place status call = plain_asks c place call

  bulk_asks : (c : ClientState) (clock place : ℕ) (act : Going) (statuses : List AfsFetchStatus) (callbacks : List AfsCallBack) (sync : AfsVolSync) (call : FsCall) → Asks c.seats (takes_bulk me c clock place act statuses callbacks sync call)
  bulk_asks c clock place act statuses callbacks sync (calls.BulkStatus fids) = entries_asks c clock place act (entries_told c.callee sync fids statuses callbacks)
  bulk_asks c clock place act statuses callbacks sync call = plain_asks c place call

  back_asks : (c : ClientState) (place : ℕ) (act : Going) (call : FsCall) → Asks c.seats (takes_given me c place act call)
  back_asks c place act (calls.GiveUpCallBacks fids callbacks) = gives_asks c (with_given place) act (behind_batch c.gifts)
  back_asks c place act call = plain_asks c place call

  takes_asks : (c : ClientState) (clock place : ℕ) (act : Going) (call : FsCall) (reply : FsReply) → Asks c.seats (takes me c clock place act call reply)
  takes_asks c clock place act call (replies.FetchData contents status callback sync) = data_asks c clock place act contents status callback sync call
  takes_asks c clock place act call (replies.FetchAcl text status sync) = list_asks c clock place act text status sync call
  takes_asks c clock place act call (replies.FetchStatus status callback sync) = shown_asks c clock place act status callback sync call
  takes_asks c clock place act call (replies.BulkStatus statuses callbacks sync) = bulk_asks c clock place act statuses callbacks sync call
  takes_asks c clock place act call (replies.StoreData status sync) = set_asks c clock place status call
  takes_asks c clock place act call (replies.StoreAcl status sync) = set_asks c clock place status call
  takes_asks c clock place act call (replies.StoreStatus status sync) = set_asks c clock place status call
  takes_asks c clock place act call replies.GiveUpCallBacks = back_asks c place act call
  takes_asks c clock place act call reply = plain_asks c place call

  -- ---- refusals

  where_asks : (c : ClientState) (place : ℕ) (act : Going) (code : Code) (o : Option Operand) → Asks c.seats (asks_where me c place act code o)
  where_asks c place act code None = answered_asks c place code
  where_asks c place act code (Some o) = record { sent = ((λ x. x), tt); same = refl }

  refuses_asks : (c : ClientState) (place : ℕ) (act : Going) (code : Code) → Asks c.seats (refuses me c place act code)
  refuses_asks c place act code =
      either_asks (is_busy_code code && nat_lt c.busy most_busy) c.seats (calls_again me (record c { busy = c.busy + 1 }) place act) (refuses_for_good me c place act code) (record { sent = ((λ x. x), tt); same = refl })
      (either_asks (is_gone_code code && nat_lt c.moved most_moved) c.seats (asks_where me c place act code (operand_in act (volume_asked (call_of c act)))) (answers_step me c place code) (where_asks c place act code (operand_in act (volume_asked (call_of c act)))) (answered_asks c place code))

  counts_asks : (c : ClientState) (clock place : ℕ) (act : Going) (head : Head) (x : Carried) → Asks c.seats (counts me c clock place act head x)
  counts_asks c clock place act head (carried.Call user call) = ignores_asks c place
  counts_asks c clock place act head (carried.Refusal code) = either_asks (is_spent c act) c.seats (calls_again me c place act) (refuses me c place act code) (again_asks c place act) (refuses_asks c place act code)
  counts_asks c clock place act head (carried.Reply (tell.File reply)) = either_asks (is_spent c act) c.seats (calls_again me c place act) (takes me c clock place act (call_of c act) reply) (again_asks c place act) (takes_asks c clock place act (call_of c act) reply)
  counts_asks c clock place act head (carried.Reply reply) = ignores_asks c place
  counts_asks c clock place act head carried.Notice = record { sent = ((λ x. x), tt); same = refl }

  awaits_asks : (c : ClientState) (clock place : ℕ) (head : Head) (x : Carried) (o : Option Going) → Asks c.seats (awaits me c clock place head x o)
  awaits_asks c clock place head x None = ignores_asks c place
  awaits_asks c clock place head x (Some act) = either_asks (is_awaited c act head) c.seats (counts me c clock place act head x) (ignores c place) (counts_asks c clock place act head x) (ignores_asks c place)

  -- ---- answers of the location database

  ended_asks : (c : ClientState) (place : ℕ) (code : Code) → Asks c.seats (sought_ends me c (with_given place) code)
  ended_asks c place code = record { sent = tt; same = refl }

  on_asks : (c : ClientState) (clock place : ℕ) (act : Going) (o : Option ℕ) → Asks c.seats (located_on me c clock place act o)
  on_asks c clock place act None = ended_asks c place _
  on_asks c clock place act (Some id) = walks_asks c clock (with_given place) (filled c.table act) c.cache

  moved_asks : (c : ClientState) (place : ℕ) (act : Going) (left : Left) (o : Option ℕ) → Asks c.seats (moved_on me c place act left o)
  moved_asks c place act left None = ended_asks c place _
  moved_asks c place act left (Some id) = either_asks (same_node (callee_of c act) left.server) c.seats (sought_ends me c (with_given place) left.code) (calls_again me c place act) (ended_asks c place left.code) (again_asks c place act)

  located_asks : (c : ClientState) (clock place : ℕ) (k : Seek) (l : Location) (o : Option Left) → Asks c.seats (located me c clock place k l o)
  located_asks c clock place k l None = on_asks (knows_place l c) clock place k.act (volume_at (knows_place l c).table k.operand)
  located_asks c clock place k l (Some left) =
      either_asks (has_location l c.table) c.seats (sought_ends me c (with_given place) left.code) (moved_on me (knows_place l c) place k.act left (volume_at (knows_place l c).table k.operand)) (ended_asks c place left.code)
      (moved_asks (knows_place l c) place k.act left (volume_at (knows_place l c).table k.operand))

  found_asks : (c : ClientState) (clock place : ℕ) (k : Seek) (o : Option LocEntry) → Asks c.seats (located_by me c clock place k o)
  found_asks c clock place k None = ignores_asks c place
  found_asks c clock place k (Some e) = located_asks c clock place k e k.left

  sought_asks : (c : ClientState) (clock place : ℕ) (k : Seek) (head : Head) (x : Carried) → Asks c.seats (sought_by me c clock place k head x)
  sought_asks c clock place k head (carried.Refusal code) = ended_asks c place code
  sought_asks c clock place k head (carried.Reply (tell.Location reply)) = found_asks c clock place k (entry_in reply)
  sought_asks c clock place k head carried.Notice = record { sent = ((λ x. x), tt); same = refl }
  sought_asks c clock place k head x = ignores_asks c place

  -- ---- timeouts

  pub waited_asks : (c : ClientState) (act : Going) → Asks c.seats (timeout_row me c act)
  waited_asks c act =
      either_asks (is_sent_again c.tries) c.seats (tries_again me c act) (gives_up me c (call_of c act)) (record { sent = ((λ x. x), tt); same = refl })
      (record { sent = tt; same = refl })

  pub missed_asks : (c : ClientState) (k : Seek) → Asks c.seats (seek_timeout_row me c k)
  missed_asks c k =
      either_asks (is_sent_again c.tries) c.seats (seeks_on me c k) (sought_ends me c (λ ls. timeout_line me c last_timeout ∷ ls) dead_code) (record { sent = ((λ x. x), tt); same = refl }) (record { sent = tt; same = refl })

-- ---- calls of servers

-- these lines drop all that this server's call breaks at the client
abbrev pub DropsFor : Node → Node → Carried → List Line → Type 0
DropsFor s c (carried.Call user (ask.File call)) ls = (what : Option Fid) → CarriesBreak call what → HasDrop s c what ls
DropsFor s c x ls = ⊤

-- what these lines drop, those drop too
abbrev pub DropsIn : List Line → List Line → Type 0
DropsIn ls more = (s c : Node) (what : Option Fid) → HasDrop s c what ls → HasDrop s c what more

abbrev pub IsTold : (Message → Type 0) → Message → Type 0
IsTold T m = HasCode m.carried → T m

-- T holds of each code that it tells; and of what it keeps for callers, if it held before
pub record Answers (T : Message → Type 0) (seats : List Seat) (s : Step ClientState) : Type 0 where
  pub sent : AllByRecursion (IsTold T) s.sent
  pub kept : SeatsAre T seats → SeatsAre T s.state.seats

all_told : (T : Message → Type 0) (ms : List Message) → AllByRecursion IsAsk ms → AllByRecursion (IsTold T) ms
all_told T [] h = tt
all_told T (m ∷ ms) h = ((λ code. absurd (h.0 code)), all_told T ms h.1)

pub asks_answers : (T : Message → Type 0) (seats : List Seat) (s : Step ClientState) → Asks seats s → Answers T seats s
asks_answers T seats s h = record { sent = all_told T s.sent h.sent; kept = λ k. subst (SeatsAre T) (sym h.same) k }

-- the lines drop each of the fids
named_drop : (s c : Node) (f : Fid) (fs : List Fid) → IsNamedIn f fs → HasDrop s c (Some f) (map (drop_line c) fs)
named_drop s c f [] h = absurd h
named_drop s c f (g ∷ fs) (inl e) = inl (refl, ap Some (sym e))
named_drop s c f (g ∷ fs) (inr h) = inr (named_drop s c f fs h)

named_by : (s c : Node) (w : Option Fid) (fs : List Fid) → NamesIn w fs → HasDrop s c w (map (drop_line c) fs)
named_by s c None fs h = absurd h
named_by s c (Some f) fs h = named_drop s c f fs h

drops_more : (s c : Node) (x : Carried) (ls more : List Line) → DropsIn ls more → DropsFor s c x ls → DropsFor s c x more
drops_more s c (carried.Call user (ask.File call)) ls more has h = λ what k. has s c what (h what k)
drops_more s c (carried.Call user (ask.Volume call)) ls more has h = tt
drops_more s c (carried.Call user (ask.Location call)) ls more has h = tt
drops_more s c (carried.Refusal code) ls more has h = tt
drops_more s c (carried.Reply reply) ls more has h = tt
drops_more s c carried.Notice ls more has h = tt

-- T holds of each answer to this message, if it is a call and these lines drop what it breaks
abbrev pub Makes : (Message → Type 0) → Node → Message → List Line → Type 0
Makes T me m told = (boot : ℕ) (x : Carried) → m.head.to ≡ me → IsCall m.carried → DropsFor m.head.from me m.carried told → T (replied boot m.head x)

module _ (T : Message → Type 0) (me : Node) (head : Head) (told : List Line) where
  either_answers : (t : Bool) (seats : List Seat) (a b : Step ClientState) → (DropsIn a.lines told → Answers T seats a) → (DropsIn b.lines told → Answers T seats b) → DropsIn (cond t a b).lines told → Answers T seats (cond t a b)
  either_answers true seats a b h k has = h has
  either_answers false seats a b h k has = k has

  quiet_answers : (c : ClientState) (place : ℕ) → Answers T c.seats (ignores c place)
  quiet_answers c place = record { sent = tt; kept = λ k. k }

  replies_answers : (c : ClientState) (place : ℕ) (ls : List Line) (x y : Carried) → head.to ≡ me → IsCall x → Makes T me (record { head = head; carried = x }) told → DropsFor head.from me x (lines.Given place ∷ ls) → DropsIn (lines.Given place ∷ ls) told → Answers T c.seats (row.replies_step c place head ls y)
  replies_answers c place ls x y to call makes drops has =
      let made : T (replied c.epoch head y) = makes c.epoch y to call (drops_more head.from me x (lines.Given place ∷ ls) told has drops) in
      record { sent = ((λ code. made), tt); kept = λ k. seated_is T (seat_for head (replied c.epoch head y)) c.seats made k }

  breaks_answers : (c : ClientState) (place : ℕ) (user : List ℕ) (call : FsCall) → head.to ≡ me → Makes T me (record { head = head; carried = carried.Call user (ask.File call) }) told → DropsIn (breaks me c place head call).lines told → Answers T c.seats (breaks me c place head call)
  breaks_answers c place user (calls.CallBack fs callbacks) to makes has =
      let a = replies_answers c place (map (drop_line me) fs) (carried.Call user (ask.File (calls.CallBack fs callbacks))) (row.reply_carried replies.CallBack) to tt makes (λ what k. named_by head.from me what fs k) has in record { sent = a.sent; kept = a.kept }
  breaks_answers c place user calls.InitCallBackState to makes has =
      let a = replies_answers c place (lines.DropAll me head.from ∷ []) (carried.Call user (ask.File calls.InitCallBackState)) (row.reply_carried replies.InitCallBackState) to tt makes (λ what k. inl (refl, refl)) has in record { sent = a.sent; kept = a.kept }
  breaks_answers c place user calls.Probe to makes has = replies_answers c place [] (carried.Call user (ask.File calls.Probe)) _ to tt makes (λ what k. absurd k) has
  breaks_answers c place user call to makes has = replies_answers c place [] (carried.Call user (ask.File call)) _ to tt makes (λ what k. absurd k) has

  runs_answers : (c : ClientState) (place : ℕ) (x : Carried) → head.to ≡ me → Makes T me (record { head = head; carried = x }) told → DropsIn (runs_carried me c place head x).lines told → Answers T c.seats (runs_carried me c place head x)
  runs_answers c place (carried.Call user (ask.File call)) to makes has = breaks_answers c place user call to makes has
  runs_answers c place (carried.Call user (ask.Volume call)) to makes has = replies_answers c place [] (carried.Call user (ask.Volume call)) _ to tt makes tt has
  runs_answers c place (carried.Call user (ask.Location call)) to makes has = replies_answers c place [] (carried.Call user (ask.Location call)) _ to tt makes tt has
  runs_answers c place (carried.Refusal code) to makes has = quiet_answers c place
  runs_answers c place (carried.Reply reply) to makes has = quiet_answers c place
  runs_answers c place carried.Notice to makes has = quiet_answers c place

  admits_answers : (c : ClientState) (place : ℕ) (x : Carried) (o : Admitted Message) → head.to ≡ me → AdmittedIs T o → Makes T me (record { head = head; carried = x }) told → DropsIn (admits_call me c place head (whole head x) o).lines told → Answers T c.seats (admits_call me c place head (whole head x) o)
  admits_answers c place x pairs.runs to h makes has = runs_answers c place x to makes has
  admits_answers c place x (pairs.kept reply) to h makes has = record { sent = ((λ code. h), tt); kept = λ k. k }
  admits_answers c place x pairs.in_progress to h makes has = quiet_answers c place
  admits_answers c place x pairs.older to h makes has = quiet_answers c place
  admits_answers c place x (pairs.wrong_boot boot) to h makes has = record { sent = ((λ code. absurd code), tt); kept = λ k. k }

  hears_answers : (c : ClientState) (clock place : ℕ) (x : Carried) → head.to ≡ me → SeatsAre T c.seats → Makes T me (record { head = head; carried = x }) told → DropsIn (hears me c clock place head x).lines told → Answers T c.seats (hears me c clock place head x)
  hears_answers c clock place (carried.Call user call) to h makes has = admits_answers c place (carried.Call user call) (admitted c.epoch c.seats head) to (admitted_is T c.epoch c.seats head h) makes has
  hears_answers c clock place (carried.Refusal code) to h makes has = asks_answers T c.seats (awaits me c clock place head (carried.Refusal code) c.running) (awaits_asks me c clock place head (carried.Refusal code) c.running)
  hears_answers c clock place (carried.Reply reply) to h makes has = asks_answers T c.seats (awaits me c clock place head (carried.Reply reply) c.running) (awaits_asks me c clock place head (carried.Reply reply) c.running)
  hears_answers c clock place carried.Notice to h makes has = asks_answers T c.seats (awaits me c clock place head carried.Notice c.running) (awaits_asks me c clock place head carried.Notice c.running)

module _ (T : Message → Type 0) (me : Node) (m : Message) (told : List Line) (makes : Makes T me m told) where
  told_by : (c : ClientState) (clock place : ℕ) (t : Bool) → same_node m.head.to me ≡ t → SeatsAre T c.seats → DropsIn (cond t (hears me c clock place m.head m.carried) (ignores c place)).lines told → Answers T c.seats (cond t (hears me c clock place m.head m.carried) (ignores c place))
  told_by c clock place true to h has = hears_answers T me m.head told c clock place m.carried (same_node-true m.head.to me to) h makes has
  told_by c clock place false to h has = record { sent = tt; kept = λ k. k }

  told_answers : (c : ClientState) (clock place : ℕ) → SeatsAre T c.seats → DropsIn (client_row me c clock place (Whole m)).lines told → Answers T c.seats (client_row me c clock place (Whole m))
  unfolding client_row
  told_answers c clock place h has = told_by c clock place (same_node m.head.to me) refl h has

  guest_by : (c : ClientState) (clock place : ℕ) (o : Option Seek) → SeatsAre T c.seats → DropsIn (sought_or me c clock place m o).lines told → Answers T c.seats (sought_or me c clock place m o)
  guest_by c clock place None h has = told_answers c clock place h has
  guest_by c clock place (Some k) h has =
      either_answers T me m.head told (is_sought me c k m.head m.carried) c.seats (sought_by me c clock place k m.head m.carried) (client_row me c clock place (Whole m))
      (λ x. asks_answers T c.seats (sought_by me c clock place k m.head m.carried) (sought_asks me c clock place k m.head m.carried)) (told_answers c clock place h) has

  pub guest_answers : (c : ClientState) (clock place : ℕ) → SeatsAre T c.seats → DropsIn (guest_row me c clock place (Whole m)).lines told → Answers T c.seats (guest_row me c clock place (Whole m))
  guest_answers c clock place h has = guest_by c clock place c.seeking h has
