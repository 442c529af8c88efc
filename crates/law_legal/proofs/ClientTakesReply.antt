-- A client takes the reply for which it waits: where it waits still, no entry was given one, however many servers a cell has.
use Rattle.law_legal.proofs.ClientCallsAtHome.{IsServer}
use Rattle.spec_history.specs.declared.acts.Operand.{Operand}
use Rattle.spec_history.specs.declared.lines.Line.{Line}
use Rattle.spec_history.specs.declared.lines.Line.TheVariants as lines
use Rattle.spec_history.specs.declared.scripts.Script.{Script}
use Rattle.spec_ideal.specs.Operations.{volume_changed}
use Rattle.law_legal.proofs.ActLines.{Acts, last_key, who_at}
use Rattle.law_legal.proofs.ActSteps.{begins_acts, falls_acts, given_acts, rises_acts, waits_acts, missed_acts, IsPlaced, quiet_over, sought_quiet}
use Rattle.law_legal.proofs.BaseLaws.{Each, IfReply, OfClient, OfReply, UpTo, at_put, by_client, client_number, each_at, same_node-refl, some_of}
use Rattle.law_legal.proofs.ClientTimeoutCounts.{CountedFacts, counted_first, counted_kept}
use Rattle.law_legal.proofs.RunGivenWasSent.{DeliveredStep, begun_ungiven, delivered_moves, missed_ungiven, sought_given, waited_ungiven}
use Rattle.law_legal.proofs.ServerRefusesForGood.{IsFirm}
use Rattle.law_legal.proofs.ActFollows.{Follows, begins_follow, falls_follow, given_follow, more_not, none_runs, rises_follow, waits_follow, sought_follow, missed_follow}
use Rattle.law_legal.proofs.ServerHearsInRuns.{client_given}
use Rattle.law_legal.proofs.CallKeysOnce.{IsKnown, any_told, by_key}
use Rattle.law_legal.proofs.RunsKnown.{Known}
use Rattle.law_legal.proofs.RunWalk.{EachMove, IsKept, IsUnsought, each_moved}
use Rattle.law_legal.proofs.ActCalls.{of_client, handed_same, AskedIn, IsBehindLast}
use Rattle.law_legal.proofs.ActCallsInRuns.{same_key_at, placed_in, sought_acts_in, told_in}
use Rattle.law_legal.proofs.ClientCallsQueued.{IsIn, each_in, in_at, in_front}
use Rattle.law_legal.proofs.ClientTimesOut.{given_has, not_next}
use Rattle.law_legal.specs.Ideal.{set_up_entry}
use Rattle.law_legal.specs.Legal.{IsFileReply, IsLocReply, IsReplyTo, IsUnanswered, IsUntoldOf}
use Rattle.law_legal.specs.LocLaws.{IsToldIn}
use Rattle.law_legal.specs.Lives.{IsDelivered, IsTo}
use Rattle.law_legal.specs.Past.{HasCode, answered_key, given_message, has_given, sent_of}
use Rattle.spec_model.specs.CellRows as cell_rows
use Rattle.spec_model.specs.FsRows.{call_number}
use Rattle.afs_num.specs.declared.messages.Call.TheVariants as ask
use Rattle.afs_num.specs.Nodes.{same_node}
use Rattle.afs_num.specs.declared.calls.AfsCallBack.{AfsCallBack}
use Rattle.afs_num.specs.declared.calls.AfsFetchStatus.{AfsFetchStatus}
use Rattle.afs_num.specs.declared.calls.AfsVolSync.{AfsVolSync}
use Rattle.afs_num.specs.declared.calls.FsCall.{FsCall}
use Rattle.afs_num.specs.declared.calls.FsCall.TheVariants as calls
use Rattle.afs_num.specs.declared.calls.FsReply.{FsReply}
use Rattle.afs_num.specs.declared.calls.FsReply.TheVariants as replies
use Rattle.afs_num.specs.declared.histories.Actor.{Actor}
use Rattle.afs_num.specs.declared.histories.Actor.TheVariants as actors
use Rattle.afs_num.specs.declared.histories.ReadBody.{ReadBody}
use Rattle.afs_num.specs.declared.histories.ReadBody.TheVariants as seen
use Rattle.afs_num.specs.declared.histories.ReadSource.TheVariants.{Fetched}
use Rattle.afs_num.specs.declared.messages.Carried.{Carried}
use Rattle.afs_num.specs.declared.messages.Carried.TheVariants as carried
use Rattle.afs_num.specs.declared.messages.Message.{Message}
use Rattle.afs_num.specs.declared.messages.Received.TheVariants.{Whole}
use Rattle.afs_num.specs.declared.messages.Reply.TheVariants as tell
use Rattle.afs_num.specs.declared.types.Code.{Code}
use Rattle.afs_num.specs.declared.types.Fid.{Fid}
use Rattle.afs_num.specs.declared.types.Head.{Head}
use Rattle.afs_num.specs.declared.types.Key.{Key}
use Rattle.afs_num.specs.declared.types.Node.{Node}
use Rattle.afs_num.specs.declared.types.Node.TheVariants.{Client, Loc, Server}
use Rattle.spec_rows.specs.Callbacks.{put}
use Rattle.spec_rows.specs.ClientRow.{Walked, awaits, begin_row, behind_batch, body_told, call_by, call_of, client_row, counts, dropped, entries_told, cache_entry_told, find_cached, with_given, gives_by, goes_by, hears, ignores, is_awaited, stands_below, is_busy_code, is_older, is_spent, is_trusted, look_at, looked, most_busy, most_reads, opcode_of, put_entries, put_entry, read_lines, reborn, refuses, status_look, status_told, takes, takes_bulk, takes_data, takes_entries, takes_entry, takes_given, takes_list, takes_set, takes_shown, takes_status, timeout_row, walked, walks_on, with_statuses, volume_asked, asks_where, is_gone_code, most_moved, is_answer, is_sought, question, seek_timeout_row, sought_by}
use Rattle.spec_rows.specs.Going.{ClientState, Going, Need, Seek, answers, next, with_read, operand_in}
use Rattle.law_legal.proofs.RunSteps.{blow_line, server_falls, server_moves, server_rises, server_set, server_stays, loc_becomes}
use Rattle.spec_rows.specs.Runs.{Cell, Entry, Moved, at_rest, begun_by_disk, in_boot, in_step, message_at, moved, start, ticked, voided}
use Rattle.spec_rows.specs.ServerSteps.{back_timeout_row, server_row, wake_row}
use Rattle.spec_rows.specs.States.{CacheEntry, Gift}
use Rattle.spec_rows.specs.Steps.{Step}
use Rattle.std.proofs.Common.{suc, ◌≡◌, ℕ, ◌+◌, ◌⊎◌, inl, inr, Bool, true, false, cond, List, [], ◌∷◌, ◌++◌, map, filter, not, Option, Some, None, refl, sym, ap, subst, ◌∙◌, eq-eqb}
use Rattle.std.specs.List.{list_any}
use Rattle.std.specs.Prelude.{◌&&◌, nat_lt, nat_eq}

-- ---- the reply that is awaited ends the act, or it asks further

abbrev IsOver : ClientState → Step ClientState → Type 0
IsOver c st = (st.state.running ≡ None) ⊎ (st.state.last ≡ c.last + 1)

either_over : (t : Bool) (c : ClientState) (a b : Step ClientState) → IsOver c a → IsOver c b → IsOver c (cond t a b)
either_over true c a b h k = h
either_over false c a b h k = k

goes_over : (j : ℕ) (c y : ClientState) (front : List Line → List Line) (w : Walked) (need : Need) → y.last ≡ c.last → IsOver c (goes_by (Client j) y front w need)
goes_over j c y front w (answers n) l = inl refl
goes_over j c y front w need l = inr (ap (λ (n : ℕ). n + 1) l)

walks_over : (j : ℕ) (c : ClientState) (clock : ℕ) (front : List Line → List Line) (act : Going) (cache : List CacheEntry) → IsOver c (walks_on (Client j) c clock front act cache)
walks_over j c clock front act cache = let w : Walked = walked (most_reads act) clock act cache in goes_over j c c front w (next w.act) refl

entry_over : (j : ℕ) (c : ClientState) (clock place : ℕ) (act : Going) (e : CacheEntry) (body : ReadBody) → IsOver c (takes_entry (Client j) c clock place act e body)
entry_over j c clock place act e body = either_over (is_trusted clock e) c _ _ (walks_over j c clock (read_lines (Client j) place (look_at Fetched e body)) (with_read e.fid body act) (put_entry c.capacity e c.cache)) (inr refl)

entries_over : (j : ℕ) (c : ClientState) (clock place : ℕ) (act : Going) (es : List CacheEntry) → IsOver c (takes_entries (Client j) c clock place act es)
entries_over j c clock place act es =
    either_over (list_any (λ e. not (is_trusted clock e)) es) c _ _ (inr refl) (walks_over j c clock (λ ls. with_given place (looked (Client j) (map status_look es) ls)) (with_statuses es act) (put_entries c.capacity es c.cache))

status_over : (j : ℕ) (c : ClientState) (clock place : ℕ) (f : Fid) (status : AfsFetchStatus) (call : FsCall) → IsOver c (takes_status (Client j) c clock place f status call)
status_over j c clock place f status call = either_over (not c.spoiled && stands_below clock status.sync_counter (find_cached f c.cache)) c _ _ (inl refl) (inl refl)

data_over : (j : ℕ) (c : ClientState) (clock place : ℕ) (act : Going) (contents : List ℕ) (status : AfsFetchStatus) (callback : AfsCallBack) (sync : AfsVolSync) (call : FsCall) → IsOver c (takes_data (Client j) c clock place act contents status callback sync call)
data_over j c clock place act contents status callback sync (calls.FetchData f position wanted) = entry_over j c clock place act (cache_entry_told c.callee f status callback sync (Some (body_told status.file_type contents))) (seen.Contents (body_told status.file_type contents))
data_over j c clock place act contents status callback sync call = inl refl

shown_over : (j : ℕ) (c : ClientState) (clock place : ℕ) (act : Going) (status : AfsFetchStatus) (callback : AfsCallBack) (sync : AfsVolSync) (call : FsCall) → IsOver c (takes_shown (Client j) c clock place act status callback sync call)
shown_over j c clock place act status callback sync (calls.FetchStatus f) = entry_over j c clock place act (cache_entry_told c.callee f status callback sync None) (seen.Status (status_told status))
shown_over j c clock place act status callback sync call = inl refl

list_over : (j : ℕ) (c : ClientState) (clock place : ℕ) (act : Going) (text : List ℕ) (status : AfsFetchStatus) (sync : AfsVolSync) (call : FsCall) → IsOver c (takes_list (Client j) c clock place act text status sync call)
list_over j c clock place act text status sync (calls.FetchAcl f) =
    walks_over j c clock (λ ls. read_lines (Client j) place (record { fid = f; index = status.sync_counter; source = Fetched; body = seen.AccessList text }) (dropped (Client j) (filter (is_older f status.sync_counter sync.release) c.cache) ls)) (with_read f (seen.AccessList text) act) (filter (λ e. not (is_older f status.sync_counter sync.release e)) c.cache)
list_over j c clock place act text status sync call = inl refl

set_over : (j : ℕ) (c : ClientState) (clock place : ℕ) (status : AfsFetchStatus) (call : FsCall) → IsOver c (takes_set (Client j) c clock place status call)
set_over j c clock place status (calls.StoreData f set position wanted file_length contents) = either_over c.spoiled c _ _ (inl refl) (inl refl)
set_over j c clock place status (calls.StoreAcl f acl) = status_over j c clock place f status (calls.StoreAcl f acl)
set_over j c clock place status (calls.StoreStatus f set) = status_over j c clock place f status (calls.StoreStatus f set)
set_over j c clock place status call = inl refl

bulk_over : (j : ℕ) (c : ClientState) (clock place : ℕ) (act : Going) (statuses : List AfsFetchStatus) (callbacks : List AfsCallBack) (sync : AfsVolSync) (call : FsCall) → IsOver c (takes_bulk (Client j) c clock place act statuses callbacks sync call)
bulk_over j c clock place act statuses callbacks sync (calls.BulkStatus fids) = entries_over j c clock place act (entries_told c.callee sync fids statuses callbacks)
bulk_over j c clock place act statuses callbacks sync call = inl refl

more_over : (j : ℕ) (c : ClientState) (place : ℕ) (act : Going) (more : List Gift) → IsOver c (gives_by (Client j) c (with_given place) act more)
more_over j c place act [] = inl refl
more_over j c place act (g ∷ more) = inr refl

given_over : (j : ℕ) (c : ClientState) (place : ℕ) (act : Going) (call : FsCall) → IsOver c (takes_given (Client j) c place act call)
given_over j c place act (calls.GiveUpCallBacks fids callbacks) = more_over j c place act (behind_batch c.gifts)
given_over j c place act call = inl refl

takes_over : (j : ℕ) (c : ClientState) (clock place : ℕ) (act : Going) (call : FsCall) (reply : FsReply) → IsOver c (takes (Client j) c clock place act call reply)
takes_over j c clock place act call (replies.FetchData contents status callback sync) = data_over j c clock place act contents status callback sync call
takes_over j c clock place act call (replies.FetchAcl text status sync) = list_over j c clock place act text status sync call
takes_over j c clock place act call (replies.FetchStatus status callback sync) = shown_over j c clock place act status callback sync call
takes_over j c clock place act call (replies.StoreData status sync) = set_over j c clock place status call
takes_over j c clock place act call (replies.StoreAcl status sync) = set_over j c clock place status call
takes_over j c clock place act call (replies.StoreStatus status sync) = set_over j c clock place status call
takes_over j c clock place act call (replies.BulkStatus statuses callbacks sync) = bulk_over j c clock place act statuses callbacks sync call
takes_over j c clock place act call replies.GiveUpCallBacks = given_over j c place act call
takes_over j c clock place act call reply = inl refl

where_over : (j : ℕ) (c : ClientState) (place : ℕ) (act : Going) (code : Code) (o : Option Operand) → IsOver c (asks_where (Client j) c place act code o)
where_over j c place act code None = inl refl
where_over j c place act code (Some o) = inl refl

refuses_over : (j : ℕ) (c : ClientState) (place : ℕ) (act : Going) (code : Code) → IsOver c (refuses (Client j) c place act code)
refuses_over j c place act code = either_over (is_busy_code code && nat_lt c.busy most_busy) c _ _ (inr refl) (either_over (is_gone_code code && nat_lt c.moved most_moved) c _ _ (where_over j c place act code (operand_in act (volume_asked (call_of c act)))) (inl refl))

counts_over : (j : ℕ) (c : ClientState) (clock place : ℕ) (act : Going) (head : Head) (x : Carried) → IsFileReply x → IsOver c (counts (Client j) c clock place act head x)
counts_over j c clock place act head (carried.Refusal code) is = either_over (is_spent c act) c _ _ (inr refl) (refuses_over j c place act code)
counts_over j c clock place act head (carried.Reply (tell.File reply)) is = either_over (is_spent c act) c _ _ (inr refl) (takes_over j c clock place act (call_of c act) reply)
counts_over j c clock place act head (carried.Reply reply) is = absurd is
counts_over j c clock place act head (carried.Call user call) is = absurd is
counts_over j c clock place act head carried.Notice is = absurd is

awaits_over : (j : ℕ) (c : ClientState) (clock place : ℕ) (act : Going) (head : Head) (x : Carried) → IsFileReply x → c.running ≡ Some act → is_awaited c act head ≡ true → IsOver c (awaits (Client j) c clock place head x c.running)
awaits_over j c clock place act head x is r w =
    subst (λ (o : Option Going). IsOver c (awaits (Client j) c clock place head x o)) (sym r) (subst (λ (t : Bool). IsOver c (cond t (counts (Client j) c clock place act head x) (ignores c place))) (sym w) (counts_over j c clock place act head x is))

hears_over : (j : ℕ) (c : ClientState) (clock place : ℕ) (act : Going) (head : Head) (x : Carried) → IsFileReply x → c.running ≡ Some act → is_awaited c act head ≡ true → IsOver c (hears (Client j) c clock place head x)
hears_over j c clock place act head (carried.Refusal code) is r w = awaits_over j c clock place act head (carried.Refusal code) is r w
hears_over j c clock place act head (carried.Reply reply) is r w = awaits_over j c clock place act head (carried.Reply reply) is r w
hears_over j c clock place act head (carried.Call user call) is r w = absurd is
hears_over j c clock place act head carried.Notice is r w = absurd is

reply_over : (j : ℕ) (c : ClientState) (clock place : ℕ) (act : Going) (m : Message) → IsFileReply m.carried → m.head.to ≡ Client j → c.running ≡ Some act → is_awaited c act m.head ≡ true → IsOver c (client_row (Client j) c clock place (Whole m))
unfolding client_row
reply_over j c clock place act m is to r w =
    subst (λ (t : Bool). IsOver c (cond t (hears (Client j) c clock place m.head m.carried) (ignores c place))) (sym (ap (λ (n : Node). same_node n (Client j)) to ∙ same_node-refl (Client j))) (hears_over j c clock place act m.head m.carried is r w)

pub is_its : (c : ClientState) (act : Going) (head : Head) → head.from ≡ c.callee → head.epoch ≡ c.epoch → head.number ≡ c.last → head.opcode ≡ opcode_of c act → is_awaited c act head ≡ true
is_its c act head f e n o =
    let its : (same_node head.from c.callee && (nat_eq head.epoch c.epoch && (nat_eq head.number c.last && nat_eq head.opcode (opcode_of c act)))) ≡ true =
    rw (ap (λ (q : Node). same_node q c.callee) f ∙ same_node-refl c.callee, eq-eqb head.epoch c.epoch e, eq-eqb head.number c.last n, eq-eqb head.opcode (opcode_of c act) o) refl in its

-- ---- what entries are given

pub given_in : (ls : List Line) (sent : List Message) (m : Message) → given_message ls sent ≡ Some m → IsIn m sent
given_in [] sent m e = absurd cc
given_in (lines.Given p ∷ ls) sent m e = in_at sent p m e
given_in (l ∷ ls) sent m e = given_in ls sent m e

given_not : (ls : List Line) (sent : List Message) (callee : Node) (k : Key) (opcode : ℕ) → has_given ls ≡ false → IsReplyTo callee k opcode (given_message ls sent) → ⊥
given_not [] sent callee k opcode e x = x
given_not (lines.Given p ∷ ls) sent callee k opcode e x = absurd cc
given_not (l ∷ ls) sent callee k opcode e x = given_not ls sent callee k opcode e x

given_untold : (ls : List Line) (sent : List Message) (k : Key) (opcode : ℕ) → has_given ls ≡ false → IsLocReply k opcode (given_message ls sent) → ⊥
given_untold [] sent k opcode e x = x
given_untold (lines.Given p ∷ ls) sent k opcode e x = absurd cc
given_untold (l ∷ ls) sent k opcode e x = given_untold ls sent k opcode e x

-- a reply to one of the client's calls is to the client
not_to : (j e n : ℕ) (callee : Node) (opcode : ℕ) (o : Option Message) → ((m : Message) → o ≡ Some m → m.head.to ≡ Client j → ⊥) → IsReplyTo callee (record { node = Client j; epoch = e; number = n }) opcode o → ⊥
not_to j e n callee opcode None w x = x
not_to j e n callee opcode (Some m) w x = w m refl (ap (λ (k : Key). k.node) x.1.0)

untold_to : (j e n opcode : ℕ) (o : Option Message) → ((m : Message) → o ≡ Some m → m.head.to ≡ Client j → ⊥) → IsLocReply (record { node = Client j; epoch = e; number = n }) opcode o → ⊥
untold_to j e n opcode None w x = x
untold_to j e n opcode (Some m) w x = w m refl (ap (λ (k : Key). k.node) x.1.0)

-- an entry of another node is given nothing that is to the client
abbrev pub IsApart : ℕ → Entry → List Entry → Type 0
IsApart j e past = (m : Message) → given_message e.lines (sent_of past) ≡ Some m → m.head.to ≡ Client j → ⊥

pub apart : (j : ℕ) (e : Entry) (past : List Entry) → IsDelivered e.actor past e.lines → (e.actor ≡ actors.Node (Client j) → ⊥) → IsApart j e past
apart j e past d other m is to = other (subst (IsTo e.actor) is (d (given_has e.lines (sent_of past) m is)) ∙ ap actors.Node to)

-- ---- no reply is to a call above the client's last

abbrev pub AreBehind : ℕ → ℕ → ℕ → List Message → Type 0
AreBehind j epoch last ms = (m : Message) → IsIn m ms → IsFileReply m.carried → IsServer m.head.from → m.head.to ≡ Client j → UpTo m.head.epoch m.head.number epoch last

of_reply : (x : Carried) (A : Type 0) → IsFileReply x → OfReply A x → A
of_reply (carried.Refusal code) A is h = h
of_reply (carried.Reply reply) A is h = h
of_reply (carried.Call user call) A is h = absurd is
of_reply carried.Notice A is h = absurd is

-- a reply is to a call that is known of
pub known_reply : (c : Cell) (past : List Entry) (j : ℕ) (K : Known c past) (m : Message) → IsIn m (sent_of past) → IsFileReply m.carried → IsServer m.head.from → m.head.to ≡ Client j → IsKnown K.keys.callees c.clients m.head.from (answered_key m.head)
known_reply c past j K m i is server to =
    let P : Message → Type 0 = λ r. by_key (IsKnown K.keys.callees c.clients) r.head in
    by_client j m.head.to (P m) to (of_reply m.carried (OfClient m.head.to (P m)) is (each_in (IfReply P) c.sent m K.keys.answers (subst (IsIn m) K.hears.told i))) server.0 server.1

pub known_behind : (c : Cell) (past : List Entry) (j : ℕ) → Known c past → AreBehind j (c.clients j).epoch (c.clients j).last (sent_of past)
known_behind c past j K m i is server to =
    let known : IsKnown K.keys.callees c.clients m.head.from (answered_key m.head) = known_reply c past j K m i is server to in
    subst (λ (n : ℕ). UpTo m.head.epoch m.head.number (c.clients n).epoch (c.clients n).last) (client_number known.client j (sym known.node ∙ to)) known.behind

not_above : (j e n : ℕ) (callee : Node) (opcode : ℕ) (ms : List Message) (o : Option Message) → IsServer callee → AreBehind j e n ms → ((m : Message) → o ≡ Some m → IsIn m ms) → IsReplyTo callee (record { node = Client j; epoch = e; number = n + 1 }) opcode o → ⊥
not_above j e n callee opcode ms None server h w x = x
not_above j e n callee opcode ms (Some m) server h w x =
    let up : UpTo m.head.epoch m.head.number e n = h m (w m refl) x.0.0 (subst IsServer (sym x.0.1) server) (ap (λ (k : Key). k.node) x.1.0) in
    not_next e n (subst (λ (a : ℕ). UpTo a (n + 1) e n) (ap (λ (k : Key). k.epoch) x.1.0) (subst (λ (b : ℕ). UpTo m.head.epoch b e n) (ap (λ (k : Key). k.number) x.1.0) up))

none_above : (j e n : ℕ) (callee : Node) (opcode : ℕ) (x : Entry) (past : List Entry) → IsServer callee → AreBehind j e n (sent_of past) → IsUnanswered callee (record { node = Client j; epoch = e; number = n + 1 }) opcode (x ∷ past)
none_above j e n callee opcode x [] server h = (not_above j e n callee opcode [] (given_message x.lines []) server h (given_in x.lines []), tt)
none_above j e n callee opcode x (y ∷ past) server h =
    (not_above j e n callee opcode (sent_of (y ∷ past)) (given_message x.lines (sent_of (y ∷ past))) server h (given_in x.lines (sent_of (y ∷ past))), none_above j e n callee opcode y past server (λ m i. h m (in_front m (sent_of past) y.sent i)))

-- ---- what the location database tells

-- the opcode of what the act asked it
abbrev pub asked_number : Seek → ℕ
asked_number k = cell_rows.call_number (ask.Location (question k.operand))

is_answering : (x : Carried) → HasCode x → is_answer x ≡ true
is_answering (carried.Refusal code) has = refl
is_answering (carried.Reply reply) has = refl
is_answering (carried.Call user call) has = absurd has
is_answering carried.Notice has = absurd has

pub its_answer : (n : ℕ) (c : ClientState) (k : Seek) (m : Message) → is_answer m.carried ≡ true → m.head.from ≡ Loc → answered_key m.head ≡ last_key n c → m.head.opcode ≡ asked_number k → is_sought (Client n) c k m.head m.carried ≡ true
its_answer n c k m is from key opcode =
    let to : m.head.to ≡ Client n = ap (λ (q : Key). q.node) key in
    let its : ((is_answer m.carried && same_node m.head.to (Client n)) && (same_node m.head.from Loc && (nat_eq m.head.epoch c.epoch && (nat_eq m.head.number c.last && nat_eq m.head.opcode (asked_number k))))) ≡ true =
    rw (
      is,
      ap (λ (q : Node). same_node q (Client n)) to ∙ same_node-refl (Client n),
      ap (λ (q : Node). same_node q Loc) from,
      eq-eqb m.head.epoch c.epoch (ap (λ (q : Key). q.epoch) key),
      eq-eqb m.head.number c.last (ap (λ (q : Key). q.number) key),
      eq-eqb m.head.opcode (asked_number k) opcode,
    ) refl in its

its_sought : (n : ℕ) (c : ClientState) (k : Seek) (m : Message) → IsLocReply (last_key n c) (asked_number k) (Some m) → is_sought (Client n) c k m.head m.carried ≡ true
its_sought n c k m x = its_answer n c k m (is_answering m.carried x.0.0) x.0.1 x.1.0 x.1.1

-- it tells nothing above the client's last call
abbrev pub AreTold : ℕ → ℕ → ℕ → List Message → Type 0
AreTold j epoch last ms = (m : Message) → IsIn m ms → m.head.from ≡ Loc → m.head.to ≡ Client j → UpTo m.head.epoch m.head.number epoch last

told_behind : (s : Script) (c : Cell) (past : List Entry) (j : ℕ) → Known c past → AskedIn s c past → AreTold j (c.clients j).epoch (c.clients j).last (sent_of past)
told_behind s c past j K A m i from to = each_in (IsBehindLast c.clients) c.sent m A.behind (subst (IsIn m) K.hears.told i) from j to

untold_next : (j e n opcode : ℕ) (ms : List Message) (o : Option Message) → AreTold j e n ms → ((m : Message) → o ≡ Some m → IsIn m ms) → IsLocReply (record { node = Client j; epoch = e; number = n + 1 }) opcode o → ⊥
untold_next j e n opcode ms None h w x = x
untold_next j e n opcode ms (Some m) h w x =
    let up : UpTo m.head.epoch m.head.number e n = h m (w m refl) x.0.1 (ap (λ (k : Key). k.node) x.1.0) in
    not_next e n (subst (λ (a : ℕ). UpTo a (n + 1) e n) (ap (λ (k : Key). k.epoch) x.1.0) (subst (λ (b : ℕ). UpTo m.head.epoch b e n) (ap (λ (k : Key). k.number) x.1.0) up))

none_told : (j e n opcode : ℕ) (x : Entry) (past : List Entry) → AreTold j e n (sent_of past) → IsUntoldOf (record { node = Client j; epoch = e; number = n + 1 }) opcode (x ∷ past)
none_told j e n opcode x [] h = (untold_next j e n opcode [] (given_message x.lines []) h (given_in x.lines []), tt)
none_told j e n opcode x (y ∷ past) h =
    (untold_next j e n opcode (sent_of (y ∷ past)) (given_message x.lines (sent_of (y ∷ past))) h (given_in x.lines (sent_of (y ∷ past))), none_told j e n opcode y past (λ m i. h m (in_front m (sent_of past) y.sent i)))

-- ---- what holds after every entry

pub record Unanswered (j : ℕ) (x : ClientState) (past : List Entry) : Type 0 where
  pub calls : (act : Going) → x.running ≡ Some act → IsServer x.callee → IsUnanswered x.callee (last_key j x) (opcode_of x act) past
  pub questions : (k : Seek) → x.seeking ≡ Some k → IsUntoldOf (last_key j x) (asked_number k) past

abbrev pub UnansweredIn : Cell → List Entry → Type 0
UnansweredIn c past = (j : ℕ) → Unanswered j (c.clients j) past

abbrev pub UnansweredFacts : Script → Cell → List Entry → Type 0
UnansweredFacts s c past = CountedFacts s c past × UnansweredIn c past

unanswered_same : (n : ℕ) (x y : ClientState) (act : Going) (past : List Entry) → y.callee ≡ x.callee → y.epoch ≡ x.epoch → y.last ≡ x.last → y.gifts ≡ x.gifts → IsUnanswered x.callee (last_key n x) (opcode_of x act) past → IsUnanswered y.callee (last_key n y) (opcode_of y act) past
unanswered_same n x y act past q e l g h =
    subst (λ (m : Node). IsUnanswered m (last_key n y) (opcode_of y act) past) (sym q)
    (subst (λ (k : Key). IsUnanswered x.callee k (opcode_of y act) past) (sym (same_key_at n x y e l))
    (subst (λ (gs : List Gift). IsUnanswered x.callee (last_key n x) (call_number (call_by gs (next act))) past) (sym g) h))

-- a step in which the client goes on waiting was given no reply to its call, nor to what it asked the location database
record GoesOn (n : ℕ) (c : ClientState) (st : Step ClientState) (past : List Entry) : Type 0 where
  calls : (act : Going) → c.running ≡ Some act → st.state.running ≡ Some act → st.state.last ≡ c.last → IsReplyTo c.callee (last_key n c) (opcode_of c act) (given_message st.lines (sent_of past)) → ⊥
  questions : (k : Seek) → c.seeking ≡ Some k → st.state.seeking ≡ Some k → IsLocReply (last_key n c) (asked_number k) (given_message st.lines (sent_of past)) → ⊥

ungiven_on : (n : ℕ) (c : ClientState) (st : Step ClientState) (past : List Entry) → has_given st.lines ≡ false → GoesOn n c st past
ungiven_on n c st past none = record {
  calls = λ act r run l x. given_not st.lines (sent_of past) c.callee (last_key n c) (opcode_of c act) none x;
  questions = λ k z more x. given_untold st.lines (sent_of past) (last_key n c) (asked_number k) none x;
}

told_on : (n : ℕ) (c : ClientState) (clock place : ℕ) (m : Message) (past : List Entry) → m.head.to ≡ Client n → IsUnsought n c m → given_message (client_row (Client n) c clock place (Whole m)).lines (sent_of past) ≡ Some m → GoesOn n c (client_row (Client n) c clock place (Whole m)) past
told_on n c clock place m past to un is = record {
  calls = λ act r run l x.
      let st : Step ClientState = client_row (Client n) c clock place (Whole m) in
      let y : IsReplyTo c.callee (last_key n c) (opcode_of c act) (Some m) = subst (IsReplyTo c.callee (last_key n c) (opcode_of c act)) is x in
      let its : is_awaited c act m.head ≡ true = is_its c act m.head y.0.1 (ap (λ (k : Key). k.epoch) y.1.0) (ap (λ (k : Key). k.number) y.1.0) y.1.1 in
      elim (reply_over n c clock place act m y.0.0 to r its) [ inl none ↦ none_runs st.state.running act none run | inr more ↦ more_not st.state.last c.last more l ];
  questions = λ k z more x. (let no_ : true ≡ false = sym (its_sought n c k m (subst (IsLocReply (last_key n c) (asked_number k)) is x)) ∙ un k z in absurd cc);
}

-- what it asked the database is over once that tells a code
sought_on : (s : Script) (n : ℕ) (c : ClientState) (clock place : ℕ) (k : Seek) (m : Message) (past : List Entry) → IsPlaced s c k → IsToldIn s m.carried → given_message (sought_by (Client n) c clock place k m.head m.carried).lines (sent_of past) ≡ Some m → GoesOn n c (sought_by (Client n) c clock place k m.head m.carried) past
sought_on s n c clock place k m past p w is = record {
  calls = λ act run. absurd (none_runs c.running act p.idle run);
  questions = λ l z more x.
      let st : Step ClientState = sought_by (Client n) c clock place k m.head m.carried in
      let y : IsLocReply (last_key n c) (asked_number l) (Some m) = subst (IsLocReply (last_key n c) (asked_number l)) is x in
      let no_ : None ≡ Some l = sym (quiet_over n c place k m.head m.carried st y.0.0 (sought_quiet s n c clock place k m.head m.carried p w)) ∙ more in
      absurd cc;
}

untold_same : (n : ℕ) (x y : ClientState) (k : Seek) (past : List Entry) → y.epoch ≡ x.epoch → y.last ≡ x.last → IsUntoldOf (last_key n x) (asked_number k) past → IsUntoldOf (last_key n y) (asked_number k) past
untold_same n x y k past e l h = subst (λ (q : Key). IsUntoldOf q (asked_number k) past) (sym (same_key_at n x y e l)) h

step_unanswered : (n : ℕ) (c : ClientState) (st : Step ClientState) (past : List Entry) → Unanswered n c past → AreBehind n c.epoch c.last (sent_of past) → AreTold n c.epoch c.last (sent_of past) → Acts n (who_at c) c.gifts st → Follows n c st → GoesOn n c st past → Unanswered n st.state (of_client n st ∷ past)
step_unanswered n c st past h behind told a f on = record {
  calls = λ act run server. elim a.goes [
    | inl r ↦ elim r.act [
      | inl none ↦ absurd (none_runs st.state.running act none run)
      | inr same ↦
          let runs : c.running ≡ Some act = sym same.0 ∙ run in
          unanswered_same n c st.state act (of_client n st ∷ past) (f.stays act run r.last).callee r.epoch r.last same.1.0 (on.calls act runs run r.last, h.calls act runs (subst IsServer (f.stays act run r.last).callee server))
    ]
    | inr y ↦ elim y [
      | inl z ↦ subst (λ (e : ℕ). IsUnanswered st.state.callee (record { node = Client n; epoch = e; number = st.state.last }) (opcode_of st.state act) (of_client n st ∷ past)) (sym z.epoch)
          (subst (λ (k : ℕ). IsUnanswered st.state.callee (record { node = Client n; epoch = c.epoch; number = k }) (opcode_of st.state act) (of_client n st ∷ past)) (sym z.last)
          (none_above n c.epoch c.last st.state.callee (opcode_of st.state act) (of_client n st) past server behind))
      | inr z ↦ absurd (none_runs st.state.running act z.act run)
    ]
  ];
  questions = λ k z. elim (a.seeks k z) [
    | inl o ↦ untold_same n c st.state k (of_client n st ∷ past) o.epoch o.last (on.questions k o.before z, h.questions k o.before)
    | inr w ↦ subst (λ (e : ℕ). IsUntoldOf (record { node = Client n; epoch = e; number = st.state.last }) (asked_number k) (of_client n st ∷ past)) (sym w.above.0)
        (subst (λ (i : ℕ). IsUntoldOf (record { node = Client n; epoch = c.epoch; number = i }) (asked_number k) (of_client n st ∷ past)) (sym w.above.1)
        (none_told n c.epoch c.last (asked_number k) (of_client n st) past told))
  ];
}

other_unanswered : (j : ℕ) (x : ClientState) (e : Entry) (past : List Entry) → Unanswered j x past → IsApart j e past → Unanswered j x (e ∷ past)
other_unanswered j x e past h away = record {
  calls = λ act run server. (not_to j x.epoch x.last x.callee (opcode_of x act) (given_message e.lines (sent_of past)) away, h.calls act run server);
  questions = λ k z. (untold_to j x.epoch x.last (asked_number k) (given_message e.lines (sent_of past)) away, h.questions k z);
}

-- ---- every step

-- behind it, where what it is given is delivered
abbrev Then : Cell → List Entry → Moved → Type 0
Then c past m = DeliveredStep c past m → UnansweredIn m.cell (m.entry ∷ past)

pub known_of : (s : Script) (c : Cell) (past : List Entry) → UnansweredFacts s c past → Known c past
known_of s c past h = h.0.0.0.0.0.0.0.0.0

pub one_client : (n j : ℕ) → actors.Node (Client n) ≡ actors.Node (Client j) → n ≡ j
one_client n j e = client_number n j (one_node (Client n) (Client j) e)
  where
    one_node : (p q : Node) → actors.Node p ≡ actors.Node q → p ≡ q
    one_node p q e = cc

client_unanswered : (s : Script) (c : Cell) (past : List Entry) (n : ℕ) (st : Step ClientState) → UnansweredFacts s c past → Acts n (who_at (c.clients n)) (c.clients n).gifts st → Follows n (c.clients n) st → GoesOn n (c.clients n) st past → IsDelivered (actors.Node (Client n)) past st.lines → (j : ℕ) → Unanswered j (put n st.state c.clients j) (of_client n st ∷ past)
client_unanswered s c past n st h a f on d j =
    at_put n j (λ (x : ClientState). Unanswered j x (of_client n st ∷ past)) st.state c.clients
    (λ same. subst (λ (i : ℕ). Unanswered i st.state (of_client n st ∷ past)) same (step_unanswered n (c.clients n) st past (h.1 n) (known_behind c past n (known_of s c past h)) (told_behind s c past n (known_of s c past h) h.0.0.0.0.0.0.0.0.1) a f on))
    (λ other. other_unanswered j (c.clients j) (of_client n st) past (h.1 j) (apart j (of_client n st) past d (λ e. other (one_client n j e))))

idle_unanswered : (c : Cell) (past : List Entry) (e : Entry) → UnansweredIn c past → ((j : ℕ) → e.actor ≡ actors.Node (Client j) → ⊥) → IsDelivered e.actor past e.lines → (j : ℕ) → Unanswered j (c.clients j) (e ∷ past)
idle_unanswered c past e h none d j = other_unanswered j (c.clients j) e past (h j) (apart j e past d (none j))

nobody : (j : ℕ) → actors.Nobody ≡ actors.Node (Client j) → ⊥
nobody j e = absurd cc

of_clock : (j : ℕ) → actors.Clock ≡ actors.Node (Client j) → ⊥
of_clock j e = absurd cc

of_server : (i j : ℕ) → actors.Node (Server i) ≡ actors.Node (Client j) → ⊥
of_server i j e = absurd cc

unanswered_moves : (s : Script) → EachMove (UnansweredFacts s) Then
unanswered_moves s = record {
  void = λ c past h. idle_unanswered c past (voided c).entry h.1 nobody;
  ticked = λ c past n h. idle_unanswered c past (ticked c (suc n)).entry h.1 of_clock;
  begun = λ c past n act h r z0. client_unanswered s c past n _ h (begins_acts n (c.clients n) c.clock act r z0) (begins_follow n (c.clients n) c.clock act (h.0.0.0.0.0.1 n).0 r) (ungiven_on n (c.clients n) (begin_row (Client n) (c.clients n) c.clock act) past (begun_ungiven (Client n) (c.clients n) c.clock act));
  told = λ c past n place m h at to un. (let K : Known c past = known_of s c past h in
      client_unanswered s c past n _ h (given_acts (by_key (IsKnown K.keys.callees c.clients)) any_told n (c.clients n) c.clock place m (K.keys.replies n) (h.0.0.0.0.0.0.0.0.1.seats n)) (given_follow n (c.clients n) c.clock place m (h.0.0.0.0.0.1 n).0 (each_at (λ m. IsFirm m.head m.carried) c.sent place m at h.0.0.0.0.0.0.1))
      (told_on n (c.clients n) c.clock place m past to un ((client_given c past n place m K.hears to at).given (sent_of past) ∙ (ap (λ (ms : List Message). message_at ms place) K.hears.told ∙ at))));
  sought = λ c past n place m k h at to z e. (let A : AskedIn s c past = h.0.0.0.0.0.0.0.0.1 in
      client_unanswered s c past n _ h (sought_acts_in s c past n place m k A at z e) (sought_follow s n (c.clients n) c.clock place k m.head m.carried (placed_in s c past n k A z) (told_in s c past n place m k A at e) (h.0.0.0.0.0.1 n).0)
      (sought_on s n (c.clients n) c.clock place k m past (placed_in s c past n k A z) (told_in s c past n place m k A at e) (sought_given c past n place m k (known_of s c past h) at)));
  missed = λ c past n k h r z. client_unanswered s c past n _ h (missed_acts n (c.clients n) k r z) (missed_follow n (c.clients n) k r (h.0.0.0.0.0.1 n).0) (ungiven_on n (c.clients n) (seek_timeout_row (Client n) (c.clients n) k) past (missed_ungiven (Client n) (c.clients n) k));
  loc = λ c past l ls ms h st. idle_unanswered c past (loc_becomes c l ls ms).entry h.1 (λ j e. absurd cc);
  waited = λ c past n act h r. client_unanswered s c past n _ h (waits_acts n (c.clients n) act r) (waits_follow n (c.clients n) act (h.0.0.0.0.0.1 n).0) (ungiven_on n (c.clients n) (timeout_row (Client n) (c.clients n) act) past (waited_ungiven (Client n) (c.clients n) act));
  fallen = λ c past n h. client_unanswered s c past n _ h (falls_acts n c.handed (c.clients n) (handed_same s c past (h.0.0.0.0.0.0.0.0.1) n)) (falls_follow n c.handed (c.clients n)) (ungiven_on n (c.clients n) (record { state = reborn c.handed (c.clients n); lines = lines.Crash (Client n) ∷ []; sent = [] }) past refl);
  risen = λ c past n h. client_unanswered s c past n _ h (rises_acts n (c.clients n)) (rises_follow n (c.clients n) (h.0.0.0.0.0.1 n).0) (ungiven_on n (c.clients n) (record { state = c.clients n; lines = lines.Restart (Client n) (c.clients n).epoch ∷ []; sent = [] }) past refl);
  served = λ c past i place m armed h up at to. idle_unanswered c past (server_moves c i armed (server_row (Server i) (c.hosts i).state c.clock place (Whole m))).entry h.1 (of_server i);
  cut = λ c past i place m t h up at to. idle_unanswered c past (server_falls c i (lines.Given place ∷ blow_line i t.stops ∷ []) (in_step m c.clock t)).entry h.1 (of_server i);
  stopped = λ c past i h up. idle_unanswered c past (server_falls c i (lines.Crash (Server i) ∷ []) at_rest).entry h.1 (of_server i);
  stop_set = λ c past i calls pick armed h up. idle_unanswered c past (server_set c i (lines.Stop (Server i) calls pick) armed).entry h.1 (of_server i);
  fail_set = λ c past i call armed h up. idle_unanswered c past (server_set c i (lines.Fail (Server i) call) armed).entry h.1 (of_server i);
  timed = λ c past i n b armed h up at. idle_unanswered c past (server_moves c i armed (back_timeout_row (Server i) (c.hosts i).state c.clock n b)).entry h.1 (of_server i);
  woken = λ c past i armed h up. idle_unanswered c past (server_moves c i armed (wake_row (Server i) (c.hosts i).state c.clock)).entry h.1 (of_server i);
  started = λ c past i after fall h down. idle_unanswered c past (server_rises c i (begun_by_disk (Server i) (c.hosts i).state after fall)).entry h.1 (of_server i);
  early = λ c past i fall h down. idle_unanswered c past (server_falls c i (lines.Fault (Server i) ∷ []) fall).entry h.1 (of_server i);
  midway = λ c past i after fall h down. idle_unanswered c past (server_stays c i (begun_by_disk (Server i) (c.hosts i).state after fall) (lines.Fault (Server i)) in_boot).entry h.1 (of_server i);
  full = λ c past i after fall h down. idle_unanswered c past (server_stays c i (begun_by_disk (Server i) (c.hosts i).state after fall) (lines.Full (Server i)) at_rest).entry h.1 (of_server i);
}

pub unanswered_kept : (s : Script) → IsKept (UnansweredFacts s)
unanswered_kept s c past x so h = (counted_kept s c past x so h.0, each_moved (UnansweredFacts s) Then (unanswered_moves s) c past x so h (each_moved Known DeliveredStep delivered_moves c past x so (known_of s c past h)))

pub unanswered_first : (s : Script) → UnansweredFacts s (start s) (set_up_entry s ∷ [])
unanswered_first s = (counted_first s, λ j. record { calls = λ act r server. absurd cc; questions = λ k z. absurd cc })
