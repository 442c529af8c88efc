use Rattle.spec_history.specs.declared.acts.Act.TheVariants as acts
use Rattle.law_legal.specs.LocLaws.{IsToldIn}
use Rattle.spec_history.specs.declared.acts.Act.{Act}
use Rattle.spec_history.specs.declared.lines.Line.{Line}
use Rattle.spec_history.specs.declared.lines.Line.TheVariants as lines
use Rattle.spec_history.specs.declared.scripts.Script.{Script}
use Rattle.spec_ideal.specs.Operations.{volume_changed}
use Rattle.law_legal.proofs.BaseLaws.{same_node-refl, same_node-true, some_of, asks_lookup, both}
use Rattle.law_legal.proofs.ClientCalls.{AreReplies, IsAnswer, kept_answer, uncalled_any}
use Rattle.spec_history.specs.declared.acts.Operand.{Operand}
use Rattle.law_legal.specs.Legal.{IsNeededFrom, IsRefusedWith, IsNowhere, IsOperandOf, TellsEntry}
use Rattle.law_legal.proofs.ServerSeats.{AreSeated, kept_from}
use Rattle.law_legal.specs.Past.{HasCode, running}
use Rattle.spec_model.specs.Calls as pairs
use Rattle.spec_model.specs.Calls.{Admitted, admitted}
use Rattle.afs_num.specs.Nodes.{same_node}
use Rattle.afs_num.specs.declared.calls.AfsCallBack.{AfsCallBack}
use Rattle.afs_num.specs.declared.calls.AfsFetchStatus.{AfsFetchStatus}
use Rattle.afs_num.specs.declared.calls.AfsVolSync.{AfsVolSync}
use Rattle.afs_num.specs.declared.calls.FsCall.{FsCall}
use Rattle.afs_num.specs.declared.calls.FsCall.TheVariants as calls
use Rattle.afs_num.specs.declared.calls.FsReply.{FsReply}
use Rattle.afs_num.specs.declared.calls.FsReply.TheVariants as replies
use Rattle.afs_num.specs.declared.histories.Body.{Body}
use Rattle.afs_num.specs.declared.histories.Body.{Body}
use Rattle.afs_num.specs.declared.histories.ReadBody.{ReadBody}
use Rattle.afs_num.specs.declared.histories.ReadBody.TheVariants as seen
use Rattle.afs_num.specs.declared.histories.ReadSource.TheVariants.{Fetched}
use Rattle.afs_num.specs.declared.histories.ReadStatus.{ReadStatus}
use Rattle.afs_num.specs.declared.messages.Call.TheVariants as ask
use Rattle.afs_num.specs.declared.messages.Carried.{Carried}
use Rattle.afs_num.specs.declared.messages.Carried.TheVariants as carried
use Rattle.afs_num.specs.declared.messages.Message.{Message}
use Rattle.afs_num.specs.declared.messages.Received.TheVariants.{Whole}
use Rattle.afs_num.specs.declared.messages.Reply.TheVariants as tell
use Rattle.afs_num.specs.declared.types.Code.{Code}
use Rattle.afs_num.specs.declared.types.Fid.{Fid}
use Rattle.afs_num.specs.declared.types.Head.{Head}
use Rattle.afs_num.specs.declared.types.Node.{Node}
use Rattle.afs_num.specs.declared.types.Node.TheVariants.{Client, Loc}
use Rattle.spec_rows.specs.ClientRow.{knows_place, with_boot, Look, admits_call, awaits, begin_row, begins_by, behind_batch, body_told, breaks, call_of, calls_again, client_row, counts, dead_code, dropped, dropped_after, entries_told, cache_entry_told, gift_of, with_given, given_up_in, hears, ignores, in_order, is_awaited, is_busy_code, is_older, is_spent, is_trusted, look_at, looked, most_busy, put_entries, put_entry, read_lines, reborn, refuses, runs_carried, status_look, status_told, takes, takes_bulk, takes_bytes, takes_data, takes_entries, takes_entry, takes_given, takes_list, takes_plain, takes_rights, takes_set, takes_shown, takes_status, takes_stored, timeout_line, timeout_row, trusted_in, untrusted_in, whole, with_statuses, act_by, act_of, act_sought, asks_where, entry_in, has_location, is_gone_code, located, located_by, located_on, most_moved, moved_on, no_entry_code, put_location, refuses_for_good, seek_timeout_row, seeks_again, sought_by, sought_ends, stands_for, volume_asked, answers_step, call_by}
use Rattle.spec_rows.specs.Going.{ClientState, Going, Need, began, gives_back, next, with_read, Left, Seek, operand_in, volume_at, no_entry, is_home, call_for}
use Rattle.afs_num.specs.declared.location_calls.LocEntry.{LocEntry}
use Rattle.spec_rows.specs.Runs.{locations}
use Rattle.spec_rows.specs.ServerRow.{boot_told}
use Rattle.spec_rows.specs.States.{CacheEntry, Gift, Location}
use Rattle.spec_rows.specs.Steps.{Step}
use Rattle.std.proofs.Common.{pos, ◌+◌, ◌≡◌, ℕ, ◌⊎◌, inl, inr, Bool, true, false, cond, List, [], ◌∷◌, ◌++◌, map, Option, Some, None, refl, sym, subst, filter, not, ap, ◌∙◌, nat_eq}
use Rattle.std.specs.List.{list_any}
use Rattle.std.specs.Prelude.{◌&&◌, nat_lt}
use Rattle.law_legal.proofs.ActLines.{Acts, Comes, Front, IsTheCall, Quiet, Who, answered, begin_front, calls_acts, code_seek, dropped_more, drops_quiet, either_acts, ends_acts, given_front, gives_acts, ignores_acts, kept_code, look_more, looked_more, one_of, one_of_act, own_seek, read_all, replies_acts, seeks_acts, status_reads, statuses_needed, then_front, timeout_front, told_acts, walks_acts, who_at}

-- ---- replies to its calls. `r` tells which act runs

on_given : (j : ℕ) (c : ClientState) (place : ℕ) (act : Going) → c.running ≡ Some act → Front j c.table (act_of c) act (with_given place)
on_given j c place act r = subst (λ (o : Option Going). Front j c.table (act_by o c.seeking) act (with_given place)) (sym r) (given_front j c.table act place)

again_acts : (j : ℕ) (gs : List Gift) (c : ClientState) (place : ℕ) (act : Going) → c.running ≡ Some act → Acts j (who_at c) gs (calls_again (Client j) c place act)
again_acts j gs c place act r = calls_acts j gs c act (with_given place) (on_given j c place act r)

plain_acts : (j : ℕ) (gs : List Gift) (c : ClientState) (place : ℕ) (act : Going) (call : FsCall) → c.running ≡ Some act → Acts j (who_at c) gs (takes_plain (Client j) c place call)
plain_acts j gs c place act call r = ends_acts j gs c _ (λ ls. with_given place (dropped (Client j) (dropped_after call c.cache) ls)) _ act (then_front j c.table (act_of c) act act (with_given place) (dropped (Client j) (dropped_after call c.cache)) (on_given j c place act r) (dropped_more j act (dropped_after call c.cache)))

-- a read behind the message
on_read : (j : ℕ) (c : ClientState) (place : ℕ) (act : Going) (l : Look) → IsNeededFrom l.source l.fid l.body (next act) → c.running ≡ Some act → Front j c.table (act_of c) (with_read l.fid l.body act) (read_lines (Client j) place l)
on_read j c place act l need r = then_front j c.table (act_of c) act (with_read l.fid l.body act) (with_given place) (λ ls. lines.Read (Client j) l.fid l.index l.source l.body ∷ ls) (on_given j c place act r) (look_more j act l need)

entry_acts : (j : ℕ) (gs : List Gift) (c : ClientState) (clock place : ℕ) (act : Going) (e : CacheEntry) (body : ReadBody) → c.running ≡ Some act → Acts j (who_at c) gs (takes_entry (Client j) c clock place act e body)
entry_acts j gs c clock place act e body r =
    either_acts (is_trusted clock e) j (who_at c) gs _ _
    (walks_acts j gs c clock (read_lines (Client j) place (look_at Fetched e body)) (with_read e.fid body act) (put_entry c.capacity e c.cache) (on_read j c place act (look_at Fetched e body) tt r)) (again_acts j gs c place act r)

entries_acts : (j : ℕ) (gs : List Gift) (c : ClientState) (clock place : ℕ) (act : Going) (es : List CacheEntry) → c.running ≡ Some act → Acts j (who_at c) gs (takes_entries (Client j) c clock place act es)
entries_acts j gs c clock place act es r =
    either_acts (list_any (λ e. not (is_trusted clock e)) es) j (who_at c) gs _ _ (again_acts j gs c place act r)
    (walks_acts j gs c clock (λ ls. with_given place (looked (Client j) (map status_look es) ls)) (with_statuses es act) (put_entries c.capacity es c.cache)
    (subst (λ (g : Going). Front j c.table (act_of c) g (λ ls. with_given place (looked (Client j) (map status_look es) ls))) (status_reads es act) (then_front j c.table (act_of c) act (read_all (map status_look es) act) (with_given place) (looked (Client j) (map status_look es)) (on_given j c place act r) (looked_more j act (map status_look es) (statuses_needed es act)))))

rights_acts : (j : ℕ) (gs : List Gift) (c : ClientState) (clock place : ℕ) (act : Going) (f : Fid) (index release : ℕ) (text : List ℕ) → c.running ≡ Some act → Acts j (who_at c) gs (takes_rights (Client j) c clock place act f index release text)
rights_acts j gs c clock place act f index release text r =
    let look : Look = record { fid = f; index = index; source = Fetched; body = seen.AccessList text } in
    let g : Going = with_read f (seen.AccessList text) act in
    walks_acts j gs c clock (λ ls. read_lines (Client j) place look (dropped (Client j) (filter (is_older f index release) c.cache) ls)) g (filter (λ e. not (is_older f index release e)) c.cache)
    (then_front j c.table (act_of c) g g (read_lines (Client j) place look) (dropped (Client j) (filter (is_older f index release) c.cache)) (on_read j c place act look tt r) (dropped_more j g (filter (is_older f index release) c.cache)))

stored_acts : (j : ℕ) (gs : List Gift) (c : ClientState) (clock place : ℕ) (act : Going) (f : Fid) (index : ℕ) (status : ReadStatus) (made : Option Body → Option Body) → c.running ≡ Some act → Acts j (who_at c) gs (takes_stored (Client j) c clock place f index status made)
stored_acts j gs c clock place act f index status made r = ends_acts j gs c _ (with_given place) _ act (on_given j c place act r)

bytes_acts : (j : ℕ) (gs : List Gift) (c : ClientState) (clock place : ℕ) (act : Going) (f : Fid) (status : AfsFetchStatus) (contents : List ℕ) (call : FsCall) → c.running ≡ Some act → Acts j (who_at c) gs (takes_bytes (Client j) c clock place f status contents call)
bytes_acts j gs c clock place act f status contents call r = either_acts c.spoiled j (who_at c) gs _ _ (plain_acts j gs c place act call r) (stored_acts j gs c clock place act f _ _ _ r)

status_acts : (j : ℕ) (gs : List Gift) (c : ClientState) (clock place : ℕ) (act : Going) (f : Fid) (status : AfsFetchStatus) (call : FsCall) → c.running ≡ Some act → Acts j (who_at c) gs (takes_status (Client j) c clock place f status call)
status_acts j gs c clock place act f status call r = either_acts _ j (who_at c) gs _ _ (stored_acts j gs c clock place act f _ _ _ r) (plain_acts j gs c place act call r)

data_acts : (j : ℕ) (gs : List Gift) (c : ClientState) (clock place : ℕ) (act : Going) (contents : List ℕ) (status : AfsFetchStatus) (callback : AfsCallBack) (sync : AfsVolSync) (call : FsCall) → c.running ≡ Some act → Acts j (who_at c) gs (takes_data (Client j) c clock place act contents status callback sync call)
data_acts j gs c clock place act contents status callback sync (calls.FetchData f position wanted) r =
    entry_acts j gs c clock place act (cache_entry_told c.callee f status callback sync (Some (body_told status.file_type contents))) (seen.Contents (body_told status.file_type contents)) r
data_acts j gs c clock place act contents status callback sync call r = plain_acts j gs c place act call r

shown_acts : (j : ℕ) (gs : List Gift) (c : ClientState) (clock place : ℕ) (act : Going) (status : AfsFetchStatus) (callback : AfsCallBack) (sync : AfsVolSync) (call : FsCall) → c.running ≡ Some act → Acts j (who_at c) gs (takes_shown (Client j) c clock place act status callback sync call)
shown_acts j gs c clock place act status callback sync (calls.FetchStatus f) r = entry_acts j gs c clock place act (cache_entry_told c.callee f status callback sync None) (seen.Status (status_told status)) r
shown_acts j gs c clock place act status callback sync call r = plain_acts j gs c place act call r

list_acts : (j : ℕ) (gs : List Gift) (c : ClientState) (clock place : ℕ) (act : Going) (text : List ℕ) (status : AfsFetchStatus) (sync : AfsVolSync) (call : FsCall) → c.running ≡ Some act → Acts j (who_at c) gs (takes_list (Client j) c clock place act text status sync call)
list_acts j gs c clock place act text status sync (calls.FetchAcl f) r = rights_acts j gs c clock place act f _ _ text r
list_acts j gs c clock place act text status sync call r = plain_acts j gs c place act call r

set_acts : (j : ℕ) (gs : List Gift) (c : ClientState) (clock place : ℕ) (act : Going) (status : AfsFetchStatus) (call : FsCall) → c.running ≡ Some act → Acts j (who_at c) gs (takes_set (Client j) c clock place status call)
set_acts j gs c clock place act status (calls.StoreData f set position wanted file_length contents) r = bytes_acts j gs c clock place act f status contents (calls.StoreData f set position wanted file_length contents) r
set_acts j gs c clock place act status (calls.StoreAcl f acl) r = status_acts j gs c clock place act f status (calls.StoreAcl f acl) r
set_acts j gs c clock place act status (calls.StoreStatus f set) r = status_acts j gs c clock place act f status (calls.StoreStatus f set) r
set_acts j gs c clock place act status call r = plain_acts j gs c place act call r

bulk_acts : (j : ℕ) (gs : List Gift) (c : ClientState) (clock place : ℕ) (act : Going) (statuses : List AfsFetchStatus) (callbacks : List AfsCallBack) (sync : AfsVolSync) (call : FsCall) → c.running ≡ Some act → Acts j (who_at c) gs (takes_bulk (Client j) c clock place act statuses callbacks sync call)
bulk_acts j gs c clock place act statuses callbacks sync (calls.BulkStatus fids) r = entries_acts j gs c clock place act (entries_told c.callee sync fids statuses callbacks) r
bulk_acts j gs c clock place act statuses callbacks sync call r = plain_acts j gs c place act call r

given_back_acts : (j : ℕ) (gs : List Gift) (c : ClientState) (place : ℕ) (act : Going) (call : FsCall) → c.running ≡ Some act → Acts j (who_at c) gs (takes_given (Client j) c place act call)
given_back_acts j gs c place act (calls.GiveUpCallBacks fids callbacks) r = gives_acts j gs c (with_given place) act (behind_batch c.gifts) (on_given j c place act r)
given_back_acts j gs c place act call r = plain_acts j gs c place act call r

takes_acts : (j : ℕ) (gs : List Gift) (c : ClientState) (clock place : ℕ) (act : Going) (call : FsCall) (reply : FsReply) → c.running ≡ Some act → Acts j (who_at c) gs (takes (Client j) c clock place act call reply)
takes_acts j gs c clock place act call (replies.FetchData contents status callback sync) r = data_acts j gs c clock place act contents status callback sync call r
takes_acts j gs c clock place act call (replies.FetchAcl text status sync) r = list_acts j gs c clock place act text status sync call r
takes_acts j gs c clock place act call (replies.FetchStatus status callback sync) r = shown_acts j gs c clock place act status callback sync call r
takes_acts j gs c clock place act call (replies.StoreData status sync) r = set_acts j gs c clock place act status call r
takes_acts j gs c clock place act call (replies.StoreAcl status sync) r = set_acts j gs c clock place act status call r
takes_acts j gs c clock place act call (replies.StoreStatus status sync) r = set_acts j gs c clock place act status call r
takes_acts j gs c clock place act call (replies.BulkStatus statuses callbacks sync) r = bulk_acts j gs c clock place act statuses callbacks sync call r
takes_acts j gs c clock place act call replies.GiveUpCallBacks r = given_back_acts j gs c place act call r
takes_acts j gs c clock place act call reply r = plain_acts j gs c place act call r

volume_same : (gs : List Gift) (need : Need) → volume_asked (call_for need) ≡ volume_asked (call_by gs need)
volume_same gs gives_back = refl
volume_same gs need = refl

gone_acts : (j : ℕ) (gs : List Gift) (c : ClientState) (place : ℕ) (act : Going) (code : Code) (o : Option Operand) → is_gone_code code ≡ true → ((a : Operand) → o ≡ Some a → IsOperandOf act a) → ((a : Operand) → o ≡ Some a → act.act ≡ acts.GiveUp → ⊥) → c.running ≡ Some act → Acts j (who_at c) gs (asks_where (Client j) c place act code o)
gone_acts j gs c place act code None e i w r = ends_acts j gs c c.cache (with_given place) code act (on_given j c place act r)
gone_acts j gs c place act code (Some o) e i w r = seeks_acts j gs (record c { moved = c.moved + 1 }) (record { act = act; operand = o; left = Some (record { server = c.callee; code = code }) }) c.cache (with_given place) (λ left z. subst (λ (l : Left). is_gone_code l.code ≡ true) (some_of (record { server = c.callee; code = code }) left z) e) (λ left z. i o refl) (λ z. absurd cc) (w o refl) (on_given j c place act r)

for_good_by : (t : Bool) (j : ℕ) (gs : List Gift) (c : ClientState) (place : ℕ) (act : Going) (code : Code) → (is_gone_code code && nat_lt c.moved most_moved) ≡ t → c.running ≡ Some act → Acts j (who_at c) gs (cond t (asks_where (Client j) c place act code (operand_in act (volume_asked (call_of c act)))) (answers_step (Client j) c place code))
for_good_by true j gs c place act code e r = gone_acts j gs c place act code (operand_in act (volume_asked (call_of c act))) (both (is_gone_code code) (nat_lt c.moved most_moved) e).0 (λ a is. ap (operand_in act) (volume_same c.gifts (next act)) ∙ is) (λ a is. one_of_act (is_home act.homes.second (volume_asked (call_of c act)) && not (is_home act.homes.first (volume_asked (call_of c act)))) act.act a is) r
for_good_by false j gs c place act code e r = ends_acts j gs c c.cache (with_given place) code act (on_given j c place act r)

for_good_acts : (j : ℕ) (gs : List Gift) (c : ClientState) (place : ℕ) (act : Going) (code : Code) → c.running ≡ Some act → Acts j (who_at c) gs (refuses_for_good (Client j) c place act code)
for_good_acts j gs c place act code r =
    for_good_by (is_gone_code code && nat_lt c.moved most_moved) j gs c place act code refl r

refuses_acts : (j : ℕ) (gs : List Gift) (c : ClientState) (place : ℕ) (act : Going) (code : Code) → c.running ≡ Some act → Acts j (who_at c) gs (refuses (Client j) c place act code)
refuses_acts j gs c place act code r =
    either_acts (is_busy_code code && nat_lt c.busy most_busy) j (who_at c) gs _ _ (again_acts j gs (record c { busy = c.busy + 1 }) place act r) (for_good_acts j gs c place act code r)

counts_acts : (j : ℕ) (c : ClientState) (clock place : ℕ) (act : Going) (head : Head) (x : Carried) → c.running ≡ Some act → Acts j (who_at c) c.gifts (counts (Client j) c clock place act head x)
counts_acts j c clock place act head (carried.Call user call) r = ignores_acts j c place
counts_acts j c clock place act head (carried.Refusal code) r = either_acts (is_spent c act) j (who_at c) c.gifts _ _ (again_acts j c.gifts c place act r) (refuses_acts j c.gifts c place act code r)
counts_acts j c clock place act head (carried.Reply (tell.File reply)) r = either_acts (is_spent c act) j (who_at c) c.gifts _ _ (again_acts j c.gifts c place act r) (takes_acts j c.gifts c clock place act _ reply r)
counts_acts j c clock place act head (carried.Reply reply) r = ignores_acts j c place
counts_acts j c clock place act head carried.Notice r = record { user = refl; table = refl; of = refl; runs = λ S t o q. q; goes = inl (record { epoch = refl; last = refl; act = inr (refl, (refl, refl)); sent = (record { key = refl; act = act; runs = r; user' = refl; asks = refl; to = refl; opcode = refl }, tt) }); seeks = λ k e. inl (record { before = e; running = refl; epoch = refl; last = refl; callee = refl; tries = inl refl; begins = refl }); each = λ S past t q. (refl, tt); seats = λ k. k; keys = (tt, tt); from = (record { from = refl; half = λ z. refl; firm = tt; gift = λ z ls. absurd cc }, tt) }

awaited_acts : (t : Bool) (j : ℕ) (c : ClientState) (clock place : ℕ) (act : Going) (head : Head) (x : Carried) → c.running ≡ Some act → Acts j (who_at c) c.gifts (cond t (counts (Client j) c clock place act head x) (ignores c place))
awaited_acts true j c clock place act head x r = counts_acts j c clock place act head x r
awaited_acts false j c clock place act head x r = ignores_acts j c place

awaits_acts : (j : ℕ) (c : ClientState) (clock place : ℕ) (head : Head) (x : Carried) (o : Option Going) → c.running ≡ o → Acts j (who_at c) c.gifts (awaits (Client j) c clock place head x o)
awaits_acts j c clock place head x None r = ignores_acts j c place
awaits_acts j c clock place head x (Some act) r = awaited_acts (is_awaited c act head) j c clock place act head x r

-- ---- calls to it

no_lines : (j : ℕ) → Quiet j []
no_lines j = record { of = refl; runs = λ S o. refl; begins = refl; each = λ S past own. tt }

all_line : (j : ℕ) (server : Node) → Quiet j (lines.DropAll (Client j) server ∷ [])
all_line j server = record { of = one_of j true refl; runs = λ S o. refl; begins = refl; each = λ S past own. (refl, tt) }

breaks_acts : (j : ℕ) (c : ClientState) (place : ℕ) (head : Head) (call : FsCall) → head.to ≡ Client j → Acts j (who_at c) c.gifts (breaks (Client j) c place head call)
breaks_acts j c place head (calls.CallBack fs callbacks) to = replies_acts j (who_at c) c.gifts _ place head _ _ refl refl (drops_quiet j fs) tt to tt refl
breaks_acts j c place head calls.InitCallBackState to = replies_acts j (who_at c) c.gifts _ place head _ _ refl refl (all_line j head.from) tt to tt refl
breaks_acts j c place head calls.Probe to = replies_acts j (who_at c) c.gifts c place head [] _ refl refl (no_lines j) tt to tt refl
breaks_acts j c place head call to = replies_acts j (who_at c) c.gifts c place head [] _ refl refl (no_lines j) tt to tt (refl, refl)

carried_acts : (j : ℕ) (c : ClientState) (place : ℕ) (head : Head) (x : Carried) → head.to ≡ Client j → Acts j (who_at c) c.gifts (runs_carried (Client j) c place head x)
carried_acts j c place head (carried.Call user (ask.File call)) to = breaks_acts j c place head call to
carried_acts j c place head (carried.Call user call) to = replies_acts j (who_at c) c.gifts c place head [] _ refl refl (no_lines j) tt to tt (refl, refl)
carried_acts j c place head x to = ignores_acts j c place

admits_acts : (K L : Head → Type 0) (j : ℕ) (c : ClientState) (place : ℕ) (head : Head) (x : Carried) (o : Admitted Message) → AreReplies K L c.seats → AreSeated (Client j) c.seats → head.to ≡ Client j → admitted c.epoch c.seats head ≡ o → Acts j (who_at c) c.gifts (admits_call (Client j) c place head (whole head x) o)
admits_acts K L j c place head x pairs.runs k q to e = carried_acts j c place head x to
admits_acts K L j c place head x (pairs.kept reply) k q to e =
    let a : IsAnswer K L reply = kept_answer K L c.epoch c.seats head reply k e in
    told_acts j c place (reply ∷ []) (uncalled_any (IsTheCall j c) reply a.0, tt) (code_seek j c reply.head reply.carried (kept_code (nat_eq head.boot c.epoch) (Client j) c.epoch c.seats head reply q e), tt) (kept_from (Client j) c.epoch c.seats head reply q e, tt)
admits_acts K L j c place head x pairs.in_progress k q to e = ignores_acts j c place
admits_acts K L j c place head x pairs.older k q to e = ignores_acts j c place
admits_acts K L j c place head x (pairs.wrong_boot boot) k q to e = told_acts j c place (boot_told c.epoch head ∷ []) (tt, tt) (tt, tt) (record { from = to; half = λ z. absurd z; firm = tt; gift = λ z ls. absurd cc }, tt)

hears_acts : (K L : Head → Type 0) (j : ℕ) (c : ClientState) (clock place : ℕ) (head : Head) (x : Carried) → AreReplies K L c.seats → AreSeated (Client j) c.seats → head.to ≡ Client j → Acts j (who_at c) c.gifts (hears (Client j) c clock place head x)
hears_acts K L j c clock place head (carried.Call user call) k q to = admits_acts K L j c place head (carried.Call user call) (admitted c.epoch c.seats head) k q to refl
hears_acts K L j c clock place head x k q to = awaits_acts j c clock place head x c.running refl

-- ---- its steps

-- a message that is for it
if_acts : (t : Bool) (j : ℕ) (x : Who) (gs : List Gift) (a b : Step ClientState) (head : Head) → same_node head.to (Client j) ≡ t → (head.to ≡ Client j → Acts j x gs a) → Acts j x gs b → Acts j x gs (cond t a b)
if_acts true j x gs a b head e h k = h (same_node-true head.to (Client j) e)
if_acts false j x gs a b head e h k = k

pub given_acts : (K L : Head → Type 0) (j : ℕ) (c : ClientState) (clock place : ℕ) (m : Message) → AreReplies K L c.seats → AreSeated (Client j) c.seats → Acts j (who_at c) c.gifts (client_row (Client j) c clock place (Whole m))
unfolding client_row
given_acts K L j c clock place m k q = if_acts (same_node m.head.to (Client j)) j (who_at c) c.gifts _ _ m.head refl (λ to. hears_acts K L j c clock place m.head m.carried k q to) (ignores_acts j c place)

first_acts : (j : ℕ) (gs : List Gift) (c : ClientState) (clock : ℕ) (front : List Line → List Line) (act : Going) (need : Need) → Front j c.table (act_of c) act front → Acts j (who_at c) gs (begins_by (Client j) c clock front act need)
first_acts j gs c clock front act gives_back f =
    gives_acts j gs (record c { cache = untrusted_in clock c.cache }) (λ ls. front (dropped (Client j) (trusted_in clock c.cache) ls)) act (in_order (map gift_of (trusted_in clock c.cache)))
    (then_front j c.table (act_of c) act act front (dropped (Client j) (trusted_in clock c.cache)) f (dropped_more j act (trusted_in clock c.cache)))
first_acts j gs c clock front act need f = walks_acts j gs c clock front act c.cache f

pub begins_acts : (j : ℕ) (c : ClientState) (clock : ℕ) (act : Act) → c.running ≡ None → c.seeking ≡ None → Acts j (who_at c) c.gifts (begin_row (Client j) c clock act)
unfolding begin_row
begins_acts j c clock act r z =
    first_acts j c.gifts (record c { busy = 0; moved = 0 }) clock (λ ls. lines.Begin (Client j) act ∷ ls) (began c.table act) (next (began c.table act))
    (subst (λ (o : Option Going). Front j c.table o (began c.table act) (λ ls. lines.Begin (Client j) act ∷ ls)) (sym (ap (λ (a : Option Going). act_by a c.seeking) r ∙ ap act_sought z)) (begin_front j c.table act))

pub waits_acts : (j : ℕ) (c : ClientState) (act : Going) → c.running ≡ Some act → Acts j (who_at c) c.gifts (timeout_row (Client j) c act)
waits_acts j c act r = either_acts (nat_lt c.tries 2) j (who_at c) c.gifts _ _
    (record { user = refl; table = refl; of = one_of j true refl; runs = λ S t o q. q; goes = inl (record { epoch = refl; last = refl; act = inr (refl, (refl, refl)); sent = (record { key = refl; act = act; runs = r; user' = refl; asks = refl; to = refl; opcode = refl }, tt) }); seeks = λ k e. inl (record { before = e; running = refl; epoch = refl; last = refl; callee = refl; tries = inr (refl, λ o. inl (refl, (refl, (refl, (refl, refl))))); begins = refl }); each = λ S past t q. ((refl, ((refl, refl), (refl, refl))), tt); seats = λ k. k; keys = (tt, tt); from = (record { from = refl; half = λ z. refl; firm = tt; gift = λ z ls. absurd cc }, tt) })
    (ends_acts j c.gifts c _ (λ ls. timeout_line (Client j) c 3 ∷ dropped (Client j) (given_up_in (volume_changed (call_of c act)) c.cache) ls) dead_code act
    (subst (λ (o : Option Going). Front j c.table (act_by o c.seeking) act (λ ls. timeout_line (Client j) c 3 ∷ dropped (Client j) (given_up_in (volume_changed (call_of c act)) c.cache) ls)) (sym r)
    (then_front j c.table (Some act) act act (λ ls. timeout_line (Client j) c 3 ∷ ls) (dropped (Client j) (given_up_in (volume_changed (call_of c act)) c.cache)) (timeout_front j c c.table act 3) (dropped_more j act (given_up_in (volume_changed (call_of c act)) c.cache)))))

-- it is handed the table that it had
pub falls_acts : (j : ℕ) (handed : List Location) (c : ClientState) → handed ≡ c.table → Acts j (who_at c) c.gifts (record { state = reborn handed c; lines = lines.Crash (Client j) ∷ []; sent = [] })
falls_acts j handed c same = record { user = refl; table = same; of = one_of j true refl; runs = λ S t o r. rw (same_node-refl (Client j)) refl; goes = inr (inr (record { act = refl; sent = tt; how = inl (refl, (refl, refl)) })); seeks = λ k e. absurd cc; each = λ S past t r. (refl, tt); seats = λ k n seat m e. absurd cc; keys = tt; from = tt }

pub rises_acts : (j : ℕ) (c : ClientState) → Acts j (who_at c) c.gifts (record { state = c; lines = lines.Restart (Client j) c.epoch ∷ []; sent = [] })
rises_acts j c = record { user = refl; table = refl; of = one_of j true refl; runs = λ S t o r. r; goes = inl (record { epoch = refl; last = refl; act = inr (refl, (refl, refl)); sent = tt }); seeks = λ k e. inl (record { before = e; running = refl; epoch = refl; last = refl; callee = refl; tries = inl refl; begins = refl }); each = λ S past t r. ((refl, tt), tt); seats = λ k. k; keys = tt; from = tt }

-- ---- an act that waits for the location database, where that knows no more than the client

-- it does: what is asked of it, the act needs
pub record IsPlaced (S : Script) (c : ClientState) (k : Seek) : Type 0 where
  pub table : c.table ≡ locations S
  pub idle : c.running ≡ None
  pub seeking : c.seeking ≡ Some k
  pub unknown : k.left ≡ None → volume_at (locations S) k.operand ≡ None

-- the act is answered: the database has no such volume, for who knows none; it refuses who left a server; or that server is the one
-- that it knows
abbrev pub IsEnd : Seek → Carried → Code → Type 0
IsEnd k x code = ((k.left ≡ None) × (IsNowhere code.0 x × (code.0 ≡ pos no_entry))) ⊎ (((left : Left) × ((k.left ≡ Some left) × (IsRefusedWith code.0 x × (code.0 ≡ pos no_entry)))) ⊎ ((left : Left) × ((k.left ≡ Some left) × ((code ≡ left.code) × TellsEntry x))))

-- what comes of a message to it
pub data Quietly (j : ℕ) (c : ClientState) (place : ℕ) (k : Seek) (head : Head) (x : Carried) (s : Step ClientState) : Type 0 where
  ends : (code : Code) → IsEnd k x code → HasCode x → s ≡ sought_ends (Client j) c (with_given place) code → Quietly j c place k head x s
  ignored : (HasCode x → ⊥) → s ≡ ignores c place → Quietly j c place k head x s
  again : (HasCode x → ⊥) → s ≡ seeks_again (Client j) c place k head.boot → Quietly j c place k head x s

put_there : (t : Bool) (l : Location) (ls : List Location) → has_location l ls ≡ t → t ≡ true → put_location l ls ≡ ls
put_there t l ls e f = ap (λ (b : Bool). cond b ls (filter (λ k. not (stands_for l k)) ls ++ l ∷ [])) (e ∙ f)

located_quiet : (S : Script) (j : ℕ) (c : ClientState) (clock place : ℕ) (k : Seek) (head : Head) (x : Carried) (l : Location) (o : Option Left) → k.left ≡ o → IsPlaced S c k → HasCode x → TellsEntry x → IsNowhere no_entry_code.0 x → has_location l (locations S) ≡ true → Quietly j c place k head x (located (Client j) c clock place k l o)
located_quiet S j c clock place k head x l None left p code tells none there =
    let same : put_location l c.table ≡ c.table = put_there (has_location l c.table) l c.table refl (ap (has_location l) p.table ∙ there) in
    ends no_entry_code (inl (left, (none, refl))) code
    (ap (λ (t : List Location). located_on (Client j) (record c { table = t }) clock place k.act (volume_at t k.operand)) same
    ∙ ap (located_on (Client j) c clock place k.act) (ap (λ (t : List Location). volume_at t k.operand) p.table ∙ p.unknown left))
located_quiet S j c clock place k head x l (Some left) is p code tells none there =
    ends left.code (inr (inr (left, (is, (refl, tells))))) code (ap (λ (b : Bool). cond b (sought_ends (Client j) c (with_given place) left.code) (moved_on (Client j) (knows_place l c) place k.act left (volume_at (knows_place l c).table k.operand))) (ap (has_location l) p.table ∙ there))

entry_quiet : (S : Script) (j : ℕ) (c : ClientState) (clock place : ℕ) (k : Seek) (head : Head) (x : Carried) (o : Option LocEntry) → IsPlaced S c k → HasCode x → TellsEntry x → IsNowhere no_entry_code.0 x → (e : LocEntry) × ((o ≡ Some e) × (has_location e (locations S) ≡ true)) → Quietly j c place k head x (located_by (Client j) c clock place k o)
entry_quiet S j c clock place k head x None p code tells none w = (let no_ : None ≡ Some w.0 = w.1.0 in absurd cc)
entry_quiet S j c clock place k head x (Some e) p code tells none w = located_quiet S j c clock place k head x e k.left refl p code tells none (subst (λ (y : LocEntry). has_location y (locations S) ≡ true) (some_of w.0 e (sym w.1.0)) w.1.1)

refused_end : (k : Seek) (code : Code) (o : Option Left) → k.left ≡ o → code.0 ≡ pos no_entry → IsEnd k (carried.Refusal code) code
refused_end k code None e some = inl (e, (refl, some))
refused_end k code (Some left) e some = inr (inl (left, (e, (refl, some))))

pub sought_quiet : (S : Script) (j : ℕ) (c : ClientState) (clock place : ℕ) (k : Seek) (head : Head) (x : Carried) → IsPlaced S c k → IsToldIn S x → Quietly j c place k head x (sought_by (Client j) c clock place k head x)
sought_quiet S j c clock place k head (carried.Call user call) p w = ignored (λ x. x) refl
sought_quiet S j c clock place k head (carried.Refusal code) p w = ends code (refused_end k code k.left refl w) tt refl
sought_quiet S j c clock place k head (carried.Reply (tell.File reply)) p w = absurd w
sought_quiet S j c clock place k head (carried.Reply (tell.Volume reply)) p w = absurd w
sought_quiet S j c clock place k head (carried.Reply (tell.Location reply)) p w = entry_quiet S j c clock place k head (carried.Reply (tell.Location reply)) (entry_in reply) p tt (w.0, w.1.0) tt w
sought_quiet S j c clock place k head carried.Notice p w = again (λ x. x) refl

pub by_quiet : (P : Step ClientState → Type 0) (j : ℕ) (c : ClientState) (place : ℕ) (k : Seek) (head : Head) (x : Carried) (s : Step ClientState) → Quietly j c place k head x s → ((code : Code) → IsEnd k x code → HasCode x → P (sought_ends (Client j) c (with_given place) code)) → P (ignores c place) → P (seeks_again (Client j) c place k head.boot) → P s
by_quiet P j c place k head x s (ends code e h q) a b d = subst P (sym q) (a code e h)
by_quiet P j c place k head x s (ignored mute q) a b d = subst P (sym q) b
by_quiet P j c place k head x s (again mute q) a b d = subst P (sym q) d

-- but for a notice, it leaves the boots that its client knows
pub quiet_boots : (j : ℕ) (c : ClientState) (place : ℕ) (k : Seek) (head : Head) (x : Carried) (s : Step ClientState) → HasCode x → Quietly j c place k head x s → s.state.boots ≡ c.boots
quiet_boots j c place k head x s has (ends code e h q) = ap (λ (t : Step ClientState). t.state.boots) q
quiet_boots j c place k head x s has (ignored mute q) = absurd (mute has)
quiet_boots j c place k head x s has (again mute q) = absurd (mute has)

-- behind a reply or a refusal its act waits no longer
pub quiet_over : (j : ℕ) (c : ClientState) (place : ℕ) (k : Seek) (head : Head) (x : Carried) (s : Step ClientState) → HasCode x → Quietly j c place k head x s → s.state.seeking ≡ None
quiet_over j c place k head x s has (ends code e h q) = ap (λ (t : Step ClientState). t.state.seeking) q
quiet_over j c place k head x s has (ignored mute q) = absurd (mute has)
quiet_over j c place k head x s has (again mute q) = absurd (mute has)

-- its front
on_sought : (j : ℕ) (c : ClientState) (k : Seek) (front : List Line → List Line) → c.running ≡ None → c.seeking ≡ Some k → Front j c.table (Some k.act) k.act front → Front j c.table (act_of c) k.act front
on_sought j c k front r z f = subst (λ (o : Option Going). Front j c.table o k.act front) (sym (ap (λ (a : Option Going). act_by a c.seeking) r ∙ ap act_sought z)) f

sought_ends_acts : (j : ℕ) (c : ClientState) (k : Seek) (front : List Line → List Line) (code : Code) → c.running ≡ None → Front j c.table (act_of c) k.act front → Acts j (who_at c) c.gifts (sought_ends (Client j) c front code)
sought_ends_acts j c k front code none f = record {
  user = refl;
  table = refl;
  of = f.of (lines.Answer (Client j) code ∷ []) (one_of j true refl);
  runs = λ S t o r. let a : Comes j k.act S o front = f.comes S t o r in ap (running S (Client j)) (a.on (lines.Answer (Client j) code ∷ [])) ∙ (answered j S code a.to ∙ sym (ap (λ (a : Option Going). act_by a None) none));
  goes = inl (record { epoch = refl; last = refl; act = inl none; sent = tt });
  seeks = λ k e. absurd cc;
  each = λ S past t r. f.each S past (lines.Answer (Client j) code ∷ []) t r (refl, refl) (λ own q. ((refl, record { act = k.act; runs = q }), tt));
  seats = λ k. k;
  keys = tt;
  from = tt;
}

told_seek_acts : (j : ℕ) (c : ClientState) (place : ℕ) (k : Seek) (boot : ℕ) → c.seeking ≡ Some k → Acts j (who_at c) c.gifts (seeks_again (Client j) c place k boot)
told_seek_acts j c place k boot z = record {
  user = refl;
  table = refl;
  of = refl;
  runs = λ S t o r. r;
  goes = inl (record { epoch = refl; last = refl; act = inr (refl, (refl, refl)); sent = ((refl, (refl, asks_lookup k.operand)), tt) });
  seeks = λ k e. inl (record { before = e; running = refl; epoch = refl; last = refl; callee = refl; tries = inl refl; begins = refl });
  each = λ S past t r. (refl, tt);
  seats = λ k. k;
  keys = (own_seek j (record c { boots = with_boot Loc boot c.boots }) k z, tt);
  from = (record { from = refl; half = λ z. refl; firm = tt; gift = λ z ls. absurd cc }, tt);
}

pub sought_acts : (S : Script) (j : ℕ) (c : ClientState) (clock place : ℕ) (k : Seek) (head : Head) (x : Carried) → IsPlaced S c k → IsToldIn S x → Acts j (who_at c) c.gifts (sought_by (Client j) c clock place k head x)
sought_acts S j c clock place k head x p w =
    by_quiet (Acts j (who_at c) c.gifts) j c place k head x (sought_by (Client j) c clock place k head x) (sought_quiet S j c clock place k head x p w)
    (λ code e h. sought_ends_acts j c k (with_given place) code p.idle (on_sought j c k (with_given place) p.idle p.seeking (given_front j c.table k.act place)))
    (ignores_acts j c place)
    (told_seek_acts j c place k head.boot p.seeking)

pub missed_acts : (j : ℕ) (c : ClientState) (k : Seek) → c.running ≡ None → c.seeking ≡ Some k → Acts j (who_at c) c.gifts (seek_timeout_row (Client j) c k)
missed_acts j c k none z = either_acts (nat_lt c.tries 2) j (who_at c) c.gifts _ _
    (record {
      user = refl;
      table = refl;
      of = one_of j true refl;
      runs = λ S t o q. q;
      goes = inl (record { epoch = refl; last = refl; act = inr (refl, (refl, refl)); sent = ((refl, (refl, asks_lookup k.operand)), tt) });
      seeks = λ k e. inl (record { before = e; running = refl; epoch = refl; last = refl; callee = refl; tries = inr (refl, λ o. inl (refl, (refl, (refl, (refl, refl))))); begins = refl });
      each = λ S past t q. ((refl, ((refl, refl), (refl, refl))), tt);
      seats = λ k. k;
      keys = (own_seek j (record c { tries = c.tries + 1 }) k z, tt);
      from = (record { from = refl; half = λ z. refl; firm = tt; gift = λ z ls. absurd cc }, tt);
    })
    (sought_ends_acts j c k (λ ls. timeout_line (Client j) c 3 ∷ ls) dead_code none (on_sought j c k (λ ls. timeout_line (Client j) c 3 ∷ ls) none z (timeout_front j c c.table k.act 3)))
