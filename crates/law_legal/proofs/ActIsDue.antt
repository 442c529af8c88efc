use Rattle.law_legal.proofs.ActSteps as sought
use Rattle.spec_rows.specs.ServerSteps.{server_row, back_timeout_row, wake_row}
use Rattle.law_legal.proofs.CallKeysOnce.{IsKnown, any_told, by_key}
use Rattle.law_legal.proofs.ActLeavesServer.{begins_none, missed_last, row_leaves, sought_last, waits_last}
use Rattle.law_legal.proofs.ClientCallsAtHome.{HomesIn, IsServer, callee_server, homes_kept}
use Rattle.spec_history.specs.declared.acts.Operand.{Operand}
use Rattle.spec_history.specs.declared.acts.Act.{Act}
use Rattle.spec_history.specs.declared.lines.Line.{Line}
use Rattle.spec_history.specs.declared.lines.Line.TheVariants as lines
use Rattle.spec_history.specs.declared.scripts.Script.{Script}
use Rattle.spec_ideal.specs.Operations.{volume_changed, is_number}
use Rattle.law_legal.proofs.ActLines.{last_key, Acts, who_at, IfSeek}
use Rattle.law_legal.proofs.ActSteps.{by_quiet, sought_quiet, begins_acts, falls_acts, given_acts, missed_acts, rises_acts, waits_acts}
use Rattle.law_legal.proofs.ClientCallsOfAct.{its_last}
use Rattle.law_legal.proofs.ClientSent.{call_is}
use Rattle.law_legal.proofs.OwedPasses.{all_lines}
use Rattle.law_legal.proofs.BaseLaws.{Each, IfCall, a_key, at_put, both, each_at, same_node-refl, same_node-true}
use Rattle.law_legal.proofs.ClientCallsInTurn.{KnownBy, callee_is, its_key}
use Rattle.law_legal.proofs.RunsKnown.{Known}
use Rattle.law_legal.proofs.VolumeChanges.{run_each}
use Rattle.law_legal.proofs.ServerChooses.{disk_works, one_from, risen_from, risen_lines, serves_works, starts_works, times_works, wakes_works}
use Rattle.law_legal.proofs.BaseWords.{IsOpen, is_passing}
use Rattle.law_legal.proofs.ServerRefusesForGood.{IsFirm}
use Rattle.law_legal.proofs.ActFollows.{AreOpen, more_not}
use Rattle.law_legal.proofs.RunWalk.{Behind, EachMove, IsKept, each_moved}
use Rattle.law_legal.proofs.ActNeedsNext.{asks_change}
use Rattle.law_legal.proofs.ActCalls.{AskedIn, is_idle, IsSeeking, idle_leaves, other_leaves, of_client, handed_same, IsUpToLast}
use Rattle.law_legal.proofs.ActCallsInRuns.{any_cut, any_message, blow_idle, idle_works, loc_idle, placed_in, told_in, sought_acts_in}
use Rattle.law_legal.proofs.KeptOfCell.{AreNear, AreOurs, IsOurs, Ours, begins_our, given_our, near_all, none_trusted, trusted_ours', waits_our, sought_our, missed_our}
use Rattle.law_legal.proofs.ClientTries.{GivenWaits, Waits, waits_first, waits_kept}
use Rattle.law_legal.specs.Breaks.{HasTimeout}
use Rattle.law_legal.specs.Cells.{IsOfCell}
use Rattle.law_legal.specs.ClientParts.{AnswersAreDue, IsDue, WasReplied, IsReplied, IsLeft, IsGivenAtOnce, IsUntold}
use Rattle.law_legal.specs.Ideal.{call_under, callee_under, set_up_entry}
use Rattle.law_legal.specs.Legal.{Brings, EndsAct, IsAtOnce, IsLastCall, HasHeard, IsUnlisted, IsDone, IsDead, IsOperandOf}
use Rattle.law_legal.specs.Parts.{EachLine}
use Rattle.law_legal.specs.Legal.{IsKind}
use Rattle.spec_model.specs.FsRows.{call_number, reply_number}
use Rattle.law_legal.specs.Past.{CalledSince, IsReply, answered_key, code_told, given_message, has_begun, lines_of, running, sent_of, AskedSince, HasCode, WasSent}
use Rattle.spec_model.specs.Calls as pairs
use Rattle.spec_model.specs.Calls.{Admitted, admitted}
use Rattle.afs_num.specs.Nodes.{same_node}
use Rattle.afs_num.specs.declared.calls.AfsCallBack.{AfsCallBack}
use Rattle.afs_num.specs.declared.calls.AfsFetchStatus.{AfsFetchStatus}
use Rattle.afs_num.specs.declared.calls.AfsVolSync.{AfsVolSync}
use Rattle.afs_num.specs.declared.calls.FsCall.{FsCall}
use Rattle.afs_num.specs.declared.calls.FsCall.TheVariants as calls
use Rattle.afs_num.specs.declared.calls.FsReply.{FsReply}
use Rattle.afs_num.specs.declared.calls.FsReply.TheVariants as replies
use Rattle.afs_num.specs.declared.histories.Actor.TheVariants as actors
use Rattle.afs_num.specs.declared.histories.ReadBody.{ReadBody}
use Rattle.afs_num.specs.declared.histories.ReadBody.TheVariants as seen
use Rattle.afs_num.specs.declared.histories.ReadSource.TheVariants.{Fetched}
use Rattle.spec_model.specs.CellRows as cell_rows
use Rattle.afs_num.specs.declared.messages.Call.TheVariants as ask
use Rattle.afs_num.specs.declared.messages.Carried.{Carried}
use Rattle.afs_num.specs.declared.messages.Carried.TheVariants as carried
use Rattle.afs_num.specs.declared.messages.Message.{Message}
use Rattle.afs_num.specs.declared.messages.Received.TheVariants.{Whole}
use Rattle.afs_num.specs.declared.messages.Reply.TheVariants as tell
use Rattle.afs_num.specs.declared.types.Code.{Code}
use Rattle.afs_num.specs.declared.types.Fid.{Fid}
use Rattle.afs_num.specs.declared.types.Head.{Head}
use Rattle.afs_num.specs.declared.types.Key.{Key}
use Rattle.afs_num.specs.declared.types.Node.{Node}
use Rattle.afs_num.specs.declared.types.Node.TheVariants.{Client, Server, Loc}
use Rattle.spec_rows.specs.Callbacks.{put}
use Rattle.spec_rows.specs.ClientRow.{admits_call, awaits, begin_row, begins_by, behind_batch, body_told, breaks, call_by, call_of, client_row, counts, dead_code, drop_line, dropped, dropped_after, entries_told, cache_entry_told, find_cached, gift_of, with_given, given_up_in, gives_by, gives_up, hears, ignores, in_order, is_awaited, stands_below, is_busy_code, is_older, is_spent, most_busy, read_lines, reborn, runs_carried, server_for, status_told, takes, takes_bulk, takes_data, takes_given, takes_list, takes_set, takes_shown, takes_status, timeout_line, tries_again, trusted_in, untrusted_in, whole, zero_code, asks_where, answers_step, is_gone_code, most_moved, volume_asked, act_by, act_sought, is_sought, question, seeks_on, sought_by, sought_ends, is_answer}
use Rattle.spec_rows.specs.Going.{ClientState, Going, Need, answers, asks_for, began, call_for, gives_back, next, reads, reads_rights, reads_status, reads_statuses, with_read, operand_in, locates, Seek, Left, volume_at}
use Rattle.law_legal.proofs.RunSteps.{blow_line, server_moves, server_falls, server_set, server_rises, server_stays}
use Rattle.spec_rows.specs.Runs.{Cell, Entry, Moved, begun_by_disk, locations, message_at, start, user_at, voided, ticked, in_step, in_boot, at_rest}
use Rattle.law_legal.proofs.RunSteps.{loc_becomes}
use Rattle.spec_rows.specs.States.{CacheEntry, Gift, Location}
use Rattle.spec_rows.specs.Steps.{Step}
use Rattle.std.proofs.Common.{suc, ◌≡◌, ◌≤◌, ℕ, ◌⊎◌, inl, inr, Bool, true, false, cond, List, [], ◌∷◌, map, Option, Some, None, refl, sym, ap, subst, ◌∙◌, filter, not, pos, eq-eqb, eqb-true, ltb-false, negsuc, ℤ}
use Rattle.std.specs.Prelude.{◌&&◌, ◌||◌, nat_eq, nat_lt}
use Rattle.law_legal.proofs.ActFetches.{AreReadBy, Due, IsEnd, IsRead, IsSteady, IsTold, Runs, drops_due, either_due, ends_due, entries_due, entry_due, has_now, idle_due, read_enough, read_runs, read_steady, rights_needed, statuses_needed, told_by_bulk, walks_due}

-- ---- replies, by their calls

-- the opcodes of the calls by which an act reads
abbrev reads_by : ℕ → Bool
reads_by n = nat_eq n 130 || (nat_eq n 131 || (nat_eq n 132 || nat_eq n 155))

-- an act that isn't at its end, and waits for a call by which it doesn't read, ends with that
number_ends : (gs : List Gift) (need : Need) (n : ℕ) → IsOpen need → n ≡ call_number (call_by gs need) → reads_by n ≡ false → EndsAct need
number_ends gs (reads f) n o e h = let no_ : true ≡ false = sym (ap reads_by e) ∙ h in absurd cc
number_ends gs (reads_status f) n o e h = let no_ : true ≡ false = sym (ap reads_by e) ∙ h in absurd cc
number_ends gs (reads_statuses fs) n o e h = let no_ : true ≡ false = sym (ap reads_by e) ∙ h in absurd cc
number_ends gs (reads_rights f) n o e h = let no_ : true ≡ false = sym (ap reads_by e) ∙ h in absurd cc
number_ends gs (asks_for call) n o e h = tt
number_ends gs gives_back n o e h = tt
number_ends gs (locates q) n o e h = absurd o
number_ends gs (answers code) n o e h = absurd o

-- the message carries this reply to the call of the act, which isn't at its end
record IsAnswered (c : ClientState) (act : Going) (m : Message) (reply : FsReply) : Type 0 where
  carries : m.carried ≡ carried.Reply (tell.File reply)
  open' : IsOpen (next act)

-- one that shows nothing of what an act reads ends it
shown_end : (c : ClientState) (act : Going) (m : Message) (reply : FsReply) → IsAnswered c act m reply → reads_by (reply_number reply) ≡ false → IsEnd c act m.carried zero_code
shown_end c act m reply a h kind z = number_ends c.gifts (next act) (reply_number reply) a.open' (subst (IsKind (call_of c act)) a.carries kind) h

differ : (n k : ℕ) → nat_eq n k ≡ false → n ≡ k → ⊥
differ n k apart e = let no_ : true ≡ false = sym (eq-eqb n k e) ∙ apart in absurd cc

-- none is to a call of another kind
other_end : (c : ClientState) (act : Going) (m : Message) (reply : FsReply) (call : FsCall) → IsAnswered c act m reply → call_of c act ≡ call → nat_eq (reply_number reply) (call_number call) ≡ false → IsEnd c act m.carried zero_code
other_end c act m reply call a same apart kind z = absurd (differ (reply_number reply) (call_number call) apart (subst (IsKind (call_of c act)) a.carries kind ∙ ap call_number same))

plain_due : (s : Script) (n place : ℕ) (c : ClientState) (act : Going) (m : Message) (past : List Entry) (call : FsCall) → IsTold s n place c act m past → code_told m.carried ≡ Some (pos 0) → IsEnd c act m.carried zero_code → Due s n past [] (with_given place (dropped (Client n) (dropped_after call c.cache) (lines.Answer (Client n) zero_code ∷ [])))
plain_due s n place c act m past call q z w = ends_due s n place c act m past (dropped_after call c.cache) zero_code q z w

data_due : (s : Script) (n clock place : ℕ) (c : ClientState) (act : Going) (m : Message) (past : List Entry) (contents : List ℕ) (status : AfsFetchStatus) (callback : AfsCallBack) (sync : AfsVolSync) (call : FsCall) → call_of c act ≡ call → IsAnswered c act m (replies.FetchData contents status callback sync) → IsTold s n place c act m past → code_told m.carried ≡ Some (pos 0) → Due s n past [] (takes_data (Client n) c clock place act contents status callback sync call).lines
data_due s n clock place c act m past contents status callback sync (calls.FetchData f position wanted) same a q z = entry_due s n clock place c act m past (cache_entry_told c.callee f status callback sync (Some (body_told status.file_type contents))) (seen.Contents (body_told status.file_type contents)) refl (subst (λ (k : FsCall). Brings k f (seen.Contents (body_told status.file_type contents))) (sym same) refl) q z
data_due s n clock place c act m past contents status callback sync call same a q z = plain_due s n place c act m past call q z (other_end c act m (replies.FetchData contents status callback sync) call a same refl)

shown_due : (s : Script) (n clock place : ℕ) (c : ClientState) (act : Going) (m : Message) (past : List Entry) (status : AfsFetchStatus) (callback : AfsCallBack) (sync : AfsVolSync) (call : FsCall) → call_of c act ≡ call → IsAnswered c act m (replies.FetchStatus status callback sync) → IsTold s n place c act m past → code_told m.carried ≡ Some (pos 0) → Due s n past [] (takes_shown (Client n) c clock place act status callback sync call).lines
shown_due s n clock place c act m past status callback sync (calls.FetchStatus f) same a q z = entry_due s n clock place c act m past (cache_entry_told c.callee f status callback sync None) (seen.Status (status_told status)) refl (subst (λ (k : FsCall). Brings k f (seen.Status (status_told status))) (sym same) refl) q z
shown_due s n clock place c act m past status callback sync call same a q z = plain_due s n place c act m past call q z (other_end c act m (replies.FetchStatus status callback sync) call a same refl)

list_due : (s : Script) (n clock place : ℕ) (c : ClientState) (act : Going) (m : Message) (past : List Entry) (text : List ℕ) (status : AfsFetchStatus) (sync : AfsVolSync) (call : FsCall) → call_of c act ≡ call → IsAnswered c act m (replies.FetchAcl text status sync) → IsTold s n place c act m past → code_told m.carried ≡ Some (pos 0) → Due s n past [] (takes_list (Client n) c clock place act text status sync call).lines
list_due s n clock place c act m past text status sync (calls.FetchAcl f) same a q z =
    let body : ReadBody = seen.AccessList text in
    let need : next act ≡ reads_rights f = rights_needed c.gifts (next act) f (asks_change act) same in
    let es : List CacheEntry = filter (is_older f status.sync_counter sync.release) c.cache in
    walks_due s n past (IsRead n m past) (read_steady n m past) (read_enough s n place c act m past q z) c clock
    (λ ls. read_lines (Client n) place (record { fid = f; index = status.sync_counter; source = Fetched; body = seen.AccessList text }) (dropped (Client n) (filter (is_older f status.sync_counter sync.release) c.cache) ls)) (with_read f body act) (filter (λ e. not (is_older f status.sync_counter sync.release e)) c.cache)
    (λ ls w. (
      tt,
      (
        record { fetched = refl; act = act; runs = q.runs; needs = need; used = record { reply = m; by = q.at; is_reply = q.reply; told = z; to = q.to; before = refl; call = call_of c act; called = q.called; from = q.from; last = q.last }; asks = same ∙ sym (ap call_for need) },
        drops_due s n past (IsRead n m past) (read_steady n m past) es (lines.Read (Client n) f status.sync_counter Fetched body ∷ lines.Given place ∷ []) ls (with_read f body act) (has_now n m past place f status.sync_counter Fetched body q.at) (read_runs s n (lines_of past) f status.sync_counter Fetched body act q.runs) w,
      ),
    ))
list_due s n clock place c act m past text status sync call same a q z = plain_due s n place c act m past call q z (other_end c act m (replies.FetchAcl text status sync) call a same refl)

-- the client's own store
stored_due : (s : Script) (n place : ℕ) (c : ClientState) (act : Going) (m : Message) (past : List Entry) → IsTold s n place c act m past → code_told m.carried ≡ Some (pos 0) → IsEnd c act m.carried zero_code → Due s n past [] (with_given place (lines.Answer (Client n) zero_code ∷ []))
stored_due s n place c act m past q z w = ends_due s n place c act m past [] zero_code q z w

status_due : (s : Script) (n clock place : ℕ) (c : ClientState) (act : Going) (m : Message) (past : List Entry) (f : Fid) (status : AfsFetchStatus) (call : FsCall) → IsTold s n place c act m past → code_told m.carried ≡ Some (pos 0) → IsEnd c act m.carried zero_code → Due s n past [] (takes_status (Client n) c clock place f status call).lines
status_due s n clock place c act m past f status call q z w = either_due s n past (not c.spoiled && stands_below clock status.sync_counter (find_cached f c.cache)) _ _ (stored_due s n place c act m past q z w) (plain_due s n place c act m past call q z w)

set_due : (s : Script) (n clock place : ℕ) (c : ClientState) (act : Going) (m : Message) (past : List Entry) (status : AfsFetchStatus) (call : FsCall) → IsTold s n place c act m past → code_told m.carried ≡ Some (pos 0) → IsEnd c act m.carried zero_code → Due s n past [] (takes_set (Client n) c clock place status call).lines
set_due s n clock place c act m past status (calls.StoreData f set position wanted file_length contents) q z w = either_due s n past c.spoiled _ _ (plain_due s n place c act m past (calls.StoreData f set position wanted file_length contents) q z w) (stored_due s n place c act m past q z w)
set_due s n clock place c act m past status (calls.StoreAcl f acl) q z w = status_due s n clock place c act m past f status (calls.StoreAcl f acl) q z w
set_due s n clock place c act m past status (calls.StoreStatus f set) q z w = status_due s n clock place c act m past f status (calls.StoreStatus f set) q z w
set_due s n clock place c act m past status call q z w = plain_due s n place c act m past call q z w

bulk_due : (s : Script) (n clock place : ℕ) (c : ClientState) (act : Going) (m : Message) (past : List Entry) (statuses : List AfsFetchStatus) (callbacks : List AfsCallBack) (sync : AfsVolSync) (call : FsCall) → call_of c act ≡ call → IsAnswered c act m (replies.BulkStatus statuses callbacks sync) → IsTold s n place c act m past → code_told m.carried ≡ Some (pos 0) → Due s n past [] (takes_bulk (Client n) c clock place act statuses callbacks sync call).lines
bulk_due s n clock place c act m past statuses callbacks sync (calls.BulkStatus fids) same a q z = entries_due s n clock place c act m past (entries_told c.callee sync fids statuses callbacks) fids (statuses_needed c.gifts (next act) fids (asks_change act) same) (subst (λ (call : FsCall). AreReadBy call (entries_told c.callee sync fids statuses callbacks)) (sym same) (told_by_bulk c.callee sync fids fids statuses callbacks (λ f x. x))) q z
bulk_due s n clock place c act m past statuses callbacks sync call same a q z = plain_due s n place c act m past call q z (other_end c act m (replies.BulkStatus statuses callbacks sync) call a same refl)

more_due : (s : Script) (n place : ℕ) (c : ClientState) (act : Going) (m : Message) (past : List Entry) (more : List Gift) → IsTold s n place c act m past → code_told m.carried ≡ Some (pos 0) → IsEnd c act m.carried zero_code → Due s n past [] (gives_by (Client n) c (with_given place) act more).lines
more_due s n place c act m past [] q z w = stored_due s n place c act m past q z w
more_due s n place c act m past (g ∷ more) q z w = (tt, tt)

given_due : (s : Script) (n place : ℕ) (c : ClientState) (act : Going) (m : Message) (past : List Entry) (call : FsCall) → IsTold s n place c act m past → code_told m.carried ≡ Some (pos 0) → IsEnd c act m.carried zero_code → Due s n past [] (takes_given (Client n) c place act call).lines
given_due s n place c act m past (calls.GiveUpCallBacks fids callbacks) q z w = more_due s n place c act m past (behind_batch c.gifts) q z w
given_due s n place c act m past call q z w = plain_due s n place c act m past call q z w

takes_due : (s : Script) (n clock place : ℕ) (c : ClientState) (act : Going) (m : Message) (past : List Entry) (call : FsCall) (reply : FsReply) → call_of c act ≡ call → IsAnswered c act m reply → IsTold s n place c act m past → code_told m.carried ≡ Some (pos 0) → Due s n past [] (takes (Client n) c clock place act call reply).lines
takes_due s n clock place c act m past call (replies.FetchData contents status callback sync) same a q z = data_due s n clock place c act m past contents status callback sync call same a q z
takes_due s n clock place c act m past call (replies.FetchAcl text status sync) same a q z = list_due s n clock place c act m past text status sync call same a q z
takes_due s n clock place c act m past call (replies.FetchStatus status callback sync) same a q z = shown_due s n clock place c act m past status callback sync call same a q z
takes_due s n clock place c act m past call (replies.StoreData status sync) same a q z = set_due s n clock place c act m past status call q z (shown_end c act m (replies.StoreData status sync) a refl)
takes_due s n clock place c act m past call (replies.StoreAcl status sync) same a q z = set_due s n clock place c act m past status call q z (shown_end c act m (replies.StoreAcl status sync) a refl)
takes_due s n clock place c act m past call (replies.StoreStatus status sync) same a q z = set_due s n clock place c act m past status call q z (shown_end c act m (replies.StoreStatus status sync) a refl)
takes_due s n clock place c act m past call (replies.BulkStatus statuses callbacks sync) same a q z = bulk_due s n clock place c act m past statuses callbacks sync call same a q z
takes_due s n clock place c act m past call replies.GiveUpCallBacks same a q z = given_due s n place c act m past call q z (shown_end c act m replies.GiveUpCallBacks a refl)
takes_due s n clock place c act m past call reply same a q z = plain_due s n place c act m past call q z (shown_end c act m reply a refl)

-- ---- what counts for the act that runs

pub record IsWaiting (s : Script) (n place : ℕ) (c : ClientState) (head : Head) (x : Carried) (past : List Entry) : Type 0 where
  pub asked' : (act : Going) → c.running ≡ Some act → CalledSince (last_key n c) (user_at s n) (call_of c act) past
  pub callee : (act : Going) → c.running ≡ Some act → callee_under (last_key n c) (sent_of past) ≡ Some c.callee
  pub last : IsLastCall (last_key n c) (sent_of past)
  pub acts : (act : Going) → c.running ≡ Some act → running s (Client n) (lines_of past) ≡ Some act
  pub server : (act : Going) → c.running ≡ Some act → IsServer c.callee
  pub at : message_at (sent_of past) place ≡ Some (record { head = head; carried = x })
  pub to : head.to ≡ Client n
  pub firm : IsFirm head x
  pub open' : AreOpen c

is_told : (s : Script) (n place : ℕ) (c : ClientState) (act : Going) (head : Head) (x : Carried) (past : List Entry) → IsWaiting s n place c head x past → c.running ≡ Some act → is_awaited c act head ≡ true → IsReply (record { head = head; carried = x }) → IsTold s n place c act (record { head = head; carried = x }) past
is_told s n place c act head x past w r e reply = record { runs = w.acts act r; at = w.at; reply = reply; to = w.to; called = subst (λ (k : Key). CalledSince k (user_at s n) (call_of c act) past) (its_key n c act head w.to e) (w.asked' act r); from = subst (λ (k : Key). callee_under k (sent_of past) ≡ Some c.callee) (its_key n c act head w.to e) (w.callee act r) ∙ ap Some (sym (same_node-true head.from c.callee (both (same_node head.from c.callee) _ e).0)); server = subst IsServer (sym (same_node-true head.from c.callee (both (same_node head.from c.callee) _ e).0)) (w.server act r); last = subst (λ (k : Key). IsLastCall k (sent_of past)) (its_key n c act head w.to e) w.last }

where_due : (s : Script) (n place : ℕ) (c : ClientState) (act : Going) (code : Code) (past : List Entry) (o : Option Operand) → Due s n past [] (answers_step (Client n) c place code).lines → Due s n past [] (asks_where (Client n) c place act code o).lines
where_due s n place c act code past None h = h
where_due s n place c act code past (Some o) h = (tt, tt)

counts_due : (s : Script) (n clock place : ℕ) (c : ClientState) (act : Going) (head : Head) (x : Carried) (past : List Entry) → IsWaiting s n place c head x past → c.running ≡ Some act → is_awaited c act head ≡ true → Due s n past [] (counts (Client n) c clock place act head x).lines
counts_due s n clock place c act head (carried.Call user call) past w r e = (tt, tt)
counts_due s n clock place c act head (carried.Refusal code) past w r e =
    let q : IsTold s n place c act (record { head = head; carried = carried.Refusal code }) past = is_told s n place c act head (carried.Refusal code) past w r e (w.firm.0, tt) in
    either_due s n past (is_spent c act) _ _ (tt, tt)
    (either_due s n past (is_busy_code code && nat_lt c.busy most_busy) _ _ (tt, tt)
    (let ends : Due s n past [] (answers_step (Client n) c place code).lines = ends_due s n place c act (record { head = head; carried = carried.Refusal code }) past [] code q refl (λ k z. let no_ : true ≡ false = sym (ap is_passing z) ∙ w.firm.1 in absurd cc) in
    either_due s n past (is_gone_code code && nat_lt c.moved most_moved) _ _ (where_due s n place c act code past (operand_in act (volume_asked (call_of c act))) ends) ends))
counts_due s n clock place c act head (carried.Reply (tell.File reply)) past w r e =
    let q : IsTold s n place c act (record { head = head; carried = carried.Reply (tell.File reply) }) past = is_told s n place c act head (carried.Reply (tell.File reply)) past w r e (w.firm, tt) in
    either_due s n past (is_spent c act) _ _ (tt, tt) (takes_due s n clock place c act (record { head = head; carried = carried.Reply (tell.File reply) }) past (call_of c act) reply refl (record { carries = refl; open' = w.open' act r }) q refl)
counts_due s n clock place c act head (carried.Reply reply) past w r e = (tt, tt)
counts_due s n clock place c act head carried.Notice past w r e = (tt, tt)

awaited_due : (s : Script) (n clock place : ℕ) (c : ClientState) (act : Going) (head : Head) (x : Carried) (past : List Entry) (t : Bool) → IsWaiting s n place c head x past → c.running ≡ Some act → is_awaited c act head ≡ t → Due s n past [] (cond t (counts (Client n) c clock place act head x) (ignores c place)).lines
awaited_due s n clock place c act head x past true w r e = counts_due s n clock place c act head x past w r e
awaited_due s n clock place c act head x past false w r e = (tt, tt)

awaits_due : (s : Script) (n clock place : ℕ) (c : ClientState) (head : Head) (x : Carried) (past : List Entry) (o : Option Going) → IsWaiting s n place c head x past → c.running ≡ o → Due s n past [] (awaits (Client n) c clock place head x o).lines
awaits_due s n clock place c head x past None w r = (tt, tt)
awaits_due s n clock place c head x past (Some act) w r = awaited_due s n clock place c act head x past (is_awaited c act head) w r refl

-- ---- calls to it

all_dropped : (s : Script) (n : ℕ) (past : List Entry) (own : List Line) (fs : List Fid) → Due s n past own (map (drop_line (Client n)) fs)
all_dropped s n past own [] = tt
all_dropped s n past own (f ∷ fs) = (tt, all_dropped s n past (lines.Drop (Client n) f ∷ own) fs)

breaks_due : (s : Script) (n place : ℕ) (c : ClientState) (head : Head) (call : FsCall) (past : List Entry) → Due s n past [] (breaks (Client n) c place head call).lines
breaks_due s n place c head (calls.CallBack fs callbacks) past = (tt, all_dropped s n past (lines.Given place ∷ []) fs)
breaks_due s n place c head calls.InitCallBackState past = (tt, (tt, tt))
breaks_due s n place c head calls.Probe past = (tt, tt)
breaks_due s n place c head call past = (tt, tt)

carried_due : (s : Script) (n place : ℕ) (c : ClientState) (head : Head) (x : Carried) (past : List Entry) → Due s n past [] (runs_carried (Client n) c place head x).lines
carried_due s n place c head (carried.Call user (ask.File call)) past = breaks_due s n place c head call past
carried_due s n place c head (carried.Call user call) past = (tt, tt)
carried_due s n place c head x past = (tt, tt)

admits_due : (s : Script) (n place : ℕ) (c : ClientState) (head : Head) (x : Carried) (o : Admitted Message) (past : List Entry) → Due s n past [] (admits_call (Client n) c place head (whole head x) o).lines
admits_due s n place c head x pairs.runs past = carried_due s n place c head x past
admits_due s n place c head x (pairs.kept reply) past = (tt, tt)
admits_due s n place c head x pairs.in_progress past = (tt, tt)
admits_due s n place c head x pairs.older past = (tt, tt)
admits_due s n place c head x (pairs.wrong_boot boot) past = (tt, tt)

hears_due : (s : Script) (n clock place : ℕ) (c : ClientState) (head : Head) (x : Carried) (past : List Entry) → IsWaiting s n place c head x past → Due s n past [] (hears (Client n) c clock place head x).lines
hears_due s n clock place c head (carried.Call user call) past w = admits_due s n place c head (carried.Call user call) (admitted c.epoch c.seats head) past
hears_due s n clock place c head x past w = awaits_due s n clock place c head x past c.running w refl

pub told_due : (s : Script) (n clock place : ℕ) (c : ClientState) (m : Message) (past : List Entry) → IsWaiting s n place c m.head m.carried past → Due s n past [] (client_row (Client n) c clock place (Whole m)).lines
unfolding client_row
told_due s n clock place c m past w = either_due s n past (same_node m.head.to (Client n)) _ _ (hears_due s n clock place c m.head m.carried past w) (tt, tt)

-- ---- an act begins

once_steady : (n : ℕ) → IsSteady n (IsAtOnce (Client n))
once_steady n = record { reads' = λ own f index source body k. k; drops' = λ own f k. k }

record HasBegun (s : Script) (n : ℕ) (act : Act) (g : Going) (past : List Entry) : Type 0 where
  once : IsAtOnce (Client n) (lines.Begin (Client n) act ∷ [])
  runs : Runs s n past (lines.Begin (Client n) act ∷ []) g

first_gives : (s : Script) (n : ℕ) (y : ClientState) (act : Act) (g : Going) (past : List Entry) (es : List CacheEntry) (gs : List Gift) → (IsOfCell s → AreOurs es) → in_order (map gift_of es) ≡ gs → next g ≡ gives_back → HasBegun s n act g past → Due s n past [] (gives_by (Client n) y (λ ls. lines.Begin (Client n) act ∷ dropped (Client n) es ls) g gs).lines
first_gives s n y act g past [] [] ours is by b = (tt, (record { act = g; runs = b.runs; cause = inr (inr (inr (inl (record { is = refl; by = by; begun = b.once.0; none = λ z. refl })))) }, tt))
first_gives s n y act g past (u ∷ es) [] ours is by b =
    let some : IsOfCell s → ⊥ = λ z. (let none : u ∷ es ≡ [] = none_trusted (u ∷ es) (ours z) is in absurd cc) in
    (tt, drops_due s n past (IsAtOnce (Client n)) (once_steady n) (u ∷ es) (lines.Begin (Client n) act ∷ []) (lines.Answer (Client n) zero_code ∷ []) g b.once b.runs (λ o k r. (record { act = g; runs = r; cause = inr (inr (inr (inl (record { is = refl; by = by; begun = k.0; none = λ z. absurd (some z) })))) }, tt)))
first_gives s n y act g past es (x ∷ gs) ours is by b = (tt, drops_due s n past (IsAtOnce (Client n)) (once_steady n) es (lines.Begin (Client n) act ∷ []) [] g b.once b.runs (λ o k r. tt))

first_due : (s : Script) (n clock : ℕ) (y : ClientState) (act : Act) (g : Going) (need : Need) (past : List Entry) → (IsOfCell s → AreOurs y.cache) → next g ≡ need → HasBegun s n act g past → Due s n past [] (begins_by (Client n) y clock (λ ls. lines.Begin (Client n) act ∷ ls) g need).lines
first_due s n clock y act g gives_back past ours by b = first_gives s n (record y { cache = untrusted_in clock y.cache }) act g past (trusted_in clock y.cache) (in_order (map gift_of (trusted_in clock y.cache))) (λ z. trusted_ours' clock y.cache (ours z)) refl by b
first_due s n clock y act g need past ours by b = walks_due s n past (IsAtOnce (Client n)) (once_steady n) (λ o k. inl k) y clock (λ ls. lines.Begin (Client n) act ∷ ls) g y.cache (λ ls w. (tt, w (lines.Begin (Client n) act ∷ []) b.once b.runs))

begins_due : (s : Script) (n clock : ℕ) (c : ClientState) (act : Act) (past : List Entry) → (IsOfCell s → Ours c) → c.table ≡ locations s → Due s n past [] (begin_row (Client n) c clock act).lines
unfolding begin_row
begins_due s n clock c act past ours t =
    first_due s n clock (record c { busy = 0; moved = 0 }) act (began c.table act) (next (began c.table act)) past (λ z. (ours z).cache) refl
    (record { once = (ap (λ (b : Bool). cond b true false) (same_node-refl (Client n)), refl); runs = ap (λ (b : Bool). cond b (Some (began (locations s) act)) (running s (Client n) (lines_of past))) (same_node-refl (Client n)) ∙ ap (λ (l : List Location). Some (began l act)) (sym t) })

-- ---- its call is dead

abbrev IsThird : ℕ → ClientState → List Line → Type 0
IsThird n c own = HasTimeout (Client n) c.callee c.epoch c.last 3 own × (has_begun (Client n) own ≡ false)

third_steady : (n : ℕ) (c : ClientState) → IsSteady n (IsThird n c)
third_steady n c = record { reads' = λ own f index source body k. k; drops' = λ own f k. k }

dead_due : (s : Script) (c : Cell) (past : List Entry) (n : ℕ) (act : Going) (es : List CacheEntry) → AskedIn s c past → Waits n (c.clients n) past → (c.clients n).running ≡ Some act → 2 ≤ (c.clients n).tries → Due s n past [] (timeout_line (Client n) (c.clients n) 3 ∷ dropped (Client n) es (lines.Answer (Client n) dead_code ∷ []))
dead_due s c past n act es A W r le =
    let x : ClientState = c.clients n in (
      tt,
      drops_due s n past (IsThird n x) (third_steady n x) es (timeout_line (Client n) x 3 ∷ []) (lines.Answer (Client n) dead_code ∷ []) act (inl (refl, (refl, (refl, (refl, refl)))), refl) (A.acts n ∙ ap (λ (a : Option Going). act_by a x.seeking) r)
          (λ o k q. (
            record {
              act = act;
              runs = q;
              cause = inr (inr (inl (record {
                is = refl;
                callee = x.callee;
                epoch = x.epoch;
                number = x.last;
                third = k.0;
                before = k.1;
                to = subst (λ (u : List ℕ). WasSent x.callee (last_key n x) u (call_of x act) past) (A.user n) (W.sent act r);
                call = call_of x act;
                asks = call_is x act;
                unended = W.open' act r;
                called = A.asked n act r;
              })));
            },
            tt,
          )),
    )

waits_due : (s : Script) (c : Cell) (past : List Entry) (n : ℕ) (act : Going) (t : Bool) → AskedIn s c past → Waits n (c.clients n) past → (c.clients n).running ≡ Some act → nat_lt (c.clients n).tries 2 ≡ t → Due s n past [] (cond t (tries_again (Client n) (c.clients n) act) (gives_up (Client n) (c.clients n) (call_of (c.clients n) act))).lines
waits_due s c past n act true A W r e = (tt, tt)
waits_due s c past n act false A W r e = dead_due s c past n act (given_up_in (volume_changed (call_of (c.clients n) act)) (c.clients n).cache) A W r (ltb-false (c.clients n).tries 2 e)

-- ---- what a client keeps is of its cell's servers

abbrev pub OursIn : Script → Cell → List Entry → Type 0
OursIn s c past = IsOfCell s → (j : ℕ) → Ours (c.clients j)

-- an act that waits for the location database since a server refused it was refused
abbrev LeftOf : Script → (ℕ → ClientState) → List Entry → Type 0
LeftOf s clients past = (j : ℕ) (k : Seek) (left : Left) → (clients j).seeking ≡ Some k → k.left ≡ Some left → WasReplied s (Client j) k.act left.code.0 past

abbrev LeftIn : Script → Cell → List Entry → Type 0
LeftIn s c past = LeftOf s c.clients past

abbrev pub DueFacts : Script → Cell → List Entry → Type 0
DueFacts s c past = GivenWaits s c past × (OursIn s c past × (HomesIn s c past × LeftIn s c past))

near_now : (s : Script) (c : Cell) (past : List Entry) (n : ℕ) → GivenWaits s c past → IsOfCell s → AreNear (c.clients n)
near_now s c past n h z o = subst (λ (ls : List Location). IsOurs (Server (server_for ls o))) (sym (h.0.0.0.0.1.table n)) (near_all s z o)

client_ours : (s : Script) (c : Cell) (past : List Entry) (n : ℕ) (y : ClientState) → OursIn s c past → (IsOfCell s → Ours y) → IsOfCell s → (j : ℕ) → Ours (put n y c.clients j)
client_ours s c past n y h w z j = at_put n j (λ (x : ClientState). Ours x) y c.clients (λ same. w z) (λ other. h z j)

ours_moves : (s : Script) → EachMove (DueFacts s) (Behind (OursIn s))
ours_moves s = record {
  void = λ c past h. h.1.0;
  ticked = λ c past n h. h.1.0;
  begun = λ c past n act h r z. client_ours s c past n _ h.1.0 (λ z. begins_our n c.clock (c.clients n) act (near_now s c past n h.0 z) (h.1.0 z n));
  told = λ c past n place m h at to un. client_ours s c past n _ h.1.0 (λ z. given_our n c.clock place (c.clients n) m (near_now s c past n h.0 z) (h.1.0 z n));
  sought = λ c past n place m k h at to z e. client_ours s c past n _ h.1.0 (λ y. sought_our s n c.clock place (c.clients n) k m (placed_in s c past n k h.0.0.0.0.0.1 z) (told_in s c past n place m k h.0.0.0.0.0.1 at e) (h.1.0 y n));
  missed = λ c past n k h r z. client_ours s c past n _ h.1.0 (λ y. missed_our n (c.clients n) k (h.1.0 y n));
  loc = λ c past l ls ms h st. h.1.0;
  waited = λ c past n act h r. client_ours s c past n _ h.1.0 (λ z. waits_our n (c.clients n) act (h.1.0 z n));
  fallen = λ c past n h. client_ours s c past n (reborn c.handed (c.clients n)) h.1.0 (λ z. record { cache = tt; callee = λ act e. absurd cc });
  risen = λ c past n h. client_ours s c past n (c.clients n) h.1.0 (λ z. h.1.0 z n);
  served = λ c past i place m armed h up at to. h.1.0;
  cut = λ c past i place m t h up at to. h.1.0;
  stopped = λ c past i h up. h.1.0;
  stop_set = λ c past i calls pick armed h up. h.1.0;
  fail_set = λ c past i call armed h up. h.1.0;
  timed = λ c past i n b armed h up at. h.1.0;
  woken = λ c past i armed h up. h.1.0;
  started = λ c past i after fall h down. h.1.0;
  early = λ c past i fall h down. h.1.0;
  midway = λ c past i after fall h down. h.1.0;
  full = λ c past i after fall h down. h.1.0;
}

-- ---- an act that a server refused for good waits for the location database

pub waiting_for : (s : Script) (c : Cell) (past : List Entry) (n place : ℕ) (m : Message) → GivenWaits s c past → HomesIn s c past → message_at c.sent place ≡ Some m → m.head.to ≡ Client n → IsWaiting s n place (c.clients n) m.head m.carried past
waiting_for s c past n place m h H at to = record {
  asked' = λ act r. h.0.0.0.0.1.asked n act r;
  callee = λ act r.
      let x : ClientState = c.clients n in
      let K : Known c past = h.0.0.0.0.0 in
      let P : Message → Type 0 = IfCall (KnownBy K.keys.callees c.clients) in
      callee_is K.keys.callees c.clients n (last_key n x) (x.user, call_of x act) (sent_of past) refl (ap (call_under (last_key n x)) K.hears.told ∙ h.0.0.0.0.1.last n act r) (subst (Each P) (sym K.hears.told) K.keys.calls) ∙ ap Some (K.keys.own n);
  last =
      let K : Known c past = h.0.0.0.0.0 in
      its_last K.keys.callees c.clients n (last_key n (c.clients n)) (sent_of past) refl (subst (Each (IfCall (KnownBy K.keys.callees c.clients))) (sym K.hears.told) K.keys.calls) (subst (Each (IfSeek (IsUpToLast c.clients))) (sym K.hears.told) h.0.0.0.0.1.upto);
  acts = λ act r. h.0.0.0.0.1.acts n ∙ ap (λ (a : Option Going). act_by a (c.clients n).seeking) r;
  server = λ act r. callee_server n c.clients act H.0.0 H.0.1 r;
  at = ap (λ (ms : List Message). message_at ms place) h.0.0.0.0.0.hears.told ∙ at;
  to = to;
  firm = each_at (λ m. IsFirm m.head m.carried) c.sent place m at h.0.0.1;
  open' = (h.1 n).open';
}

reply_is : (head : Head) (x : Carried) → HasCode x → IsFirm head x → IsReply (record { head = head; carried = x })
reply_is head (carried.Refusal code) is firm = (firm.0, tt)
reply_is head (carried.Reply reply) is firm = (firm, tt)
reply_is head (carried.Call user call) is firm = absurd is
reply_is head carried.Notice is firm = absurd is

replied_over : (s : Script) (j : ℕ) (act : Going) (code : ℤ) (e : Entry) (past : List Entry) → has_begun (Client j) e.lines ≡ false → WasReplied s (Client j) act code past → WasReplied s (Client j) act code (e ∷ past)
replied_over s j act code e past none w = record { gone = w.gone; newer = e ∷ w.newer; at = w.at; older = w.older; split = ap (λ (p : List Entry). e ∷ p) w.split; within = (none, w.within); actor = w.actor; reply = w.reply; by = w.by; is_reply = w.is_reply; told = w.told; to = w.to; from = w.from; call = w.call; asks = w.asks; called = w.called }

idle_left : (s : Script) (c : Cell) (past : List Entry) (e : Entry) → LeftIn s c past → all_lines is_idle e.lines ≡ true → LeftOf s c.clients (e ∷ past)
idle_left s c past e h idle j k left z f = replied_over s j k.act left.code.0 e past (idle_leaves s j e.lines (lines_of past) idle).begins (h j k left z f)

abbrev LeavesNow : Script → ℕ → ClientState → List Entry → Step ClientState → Type 0
LeavesNow s n x past st = (k : Seek) (left : Left) → st.state.seeking ≡ Some k → k.left ≡ Some left → (st.state.last ≡ x.last) ⊎ WasReplied s (Client n) k.act left.code.0 (of_client n st ∷ past)

client_left : (s : Script) (c : Cell) (past : List Entry) (n : ℕ) (st : Step ClientState) → LeftIn s c past → Acts n (who_at (c.clients n)) (c.clients n).gifts st → LeavesNow s n (c.clients n) past st → LeftOf s (put n st.state c.clients) (of_client n st ∷ past)
client_left s c past n st h a w j =
    at_put n j (λ (x : ClientState). (k : Seek) (left : Left) → x.seeking ≡ Some k → k.left ≡ Some left → WasReplied s (Client j) k.act left.code.0 (of_client n st ∷ past)) st.state c.clients
    (λ same. subst (λ (i : ℕ). (k : Seek) (left : Left) → st.state.seeking ≡ Some k → k.left ≡ Some left → WasReplied s (Client i) k.act left.code.0 (of_client n st ∷ past)) same (λ k left z f. elim (a.seeks k z) [
      | inl o ↦ replied_over s n k.act left.code.0 (of_client n st) past o.begins (h n k left o.before f)
      | inr now ↦ elim (w k left z f) [
        | inl last ↦ absurd (more_not st.state.last (c.clients n).last now.above.1 last)
        | inr r ↦ r
      ]
    ]))
    (λ other k left z f. replied_over s j k.act left.code.0 (of_client n st) past (other_leaves s n j st.lines (lines_of past) a.of other).begins (h j k left z f))

number_told : (z : ℤ) (n : ℕ) → is_number z n ≡ true → z ≡ pos n
number_told (pos k) n e = ap pos (eqb-true k n e)
number_told (negsuc k) n e = absurd cc

pub gone_code : (code : Code) (t u : Bool) → is_number code.0 103 ≡ t → is_number code.0 111 ≡ u → (t || u) ≡ true → (code.0 ≡ pos 103) ⊎ (code.0 ≡ pos 111)
gone_code code true u a b e = inl (number_told code.0 103 a)
gone_code code false true a b e = inr (number_told code.0 111 b)
gone_code code false false a b e = absurd cc

told_leaves : (s : Script) (c : Cell) (past : List Entry) (n place : ℕ) (m : Message) → DueFacts s c past → message_at c.sent place ≡ Some m → m.head.to ≡ Client n → LeavesNow s n (c.clients n) past (client_row (Client n) (c.clients n) c.clock place (Whole m))
told_leaves s c past n place m h at to k left z f = elim (row_leaves n c.clock place (c.clients n) m k left z f) [
  | inl last ↦ inl last
  | inr l ↦
      (let x : ClientState = c.clients n in
      let st : Step ClientState = client_row (Client n) x c.clock place (Whole m) in
      let W : IsWaiting s n place x m.head m.carried past = waiting_for s c past n place m h.0 h.1.1.0 at to in
      let q : IsTold s n place x k.act m past = is_told s n place x k.act m.head m.carried past W l.runs l.awaited (reply_is m.head m.carried (subst HasCode (sym l.refused) tt) W.firm) in
      inr (record {
        gone = gone_code left.code (is_number left.code.0 103) (is_number left.code.0 111) refl refl l.gone;
        newer = [];
        at = of_client n st;
        older = past;
        split = refl;
        within = (ap (has_begun (Client n)) l.lines, tt);
        actor = refl;
        reply = m;
        by = ap (λ (ls : List Line). given_message ls (sent_of past)) l.lines ∙ q.at;
        is_reply = q.reply;
        told = ap code_told l.refused;
        to = q.to;
        from = q.server;
        call = call_of x k.act;
        asks = call_is x k.act;
        called = q.called;
      }))
]

left_moves : (s : Script) → EachMove (DueFacts s) (Behind (LeftIn s))
left_moves s = record {
  void = λ c past h. idle_left s c past (voided c).entry h.1.1.1 refl;
  ticked = λ c past n h. idle_left s c past (ticked c (suc n)).entry h.1.1.1 refl;
  begun = λ c past n act h r z. client_left s c past n _ h.1.1.1 (begins_acts n (c.clients n) c.clock act r z) (λ k left y f. absurd (begins_none n c.clock (c.clients n) act k left y f));
  told = λ c past n place m h at to un. client_left s c past n _ h.1.1.1 (given_acts (by_key (IsKnown h.0.0.0.0.0.0.keys.callees c.clients)) any_told n (c.clients n) c.clock place m (h.0.0.0.0.0.0.keys.replies n) (h.0.0.0.0.0.1.seats n)) (told_leaves s c past n place m h at to);
  sought = λ c past n place m k h at to z e. client_left s c past n _ h.1.1.1 (sought_acts_in s c past n place m k h.0.0.0.0.0.1 at z e) (λ j left y f. inl (sought_last s n (c.clients n) c.clock place k m.head m.carried (placed_in s c past n k h.0.0.0.0.0.1 z) (told_in s c past n place m k h.0.0.0.0.0.1 at e)));
  missed = λ c past n k h r z. client_left s c past n _ h.1.1.1 (missed_acts n (c.clients n) k r z) (λ j left y f. inl (missed_last n (c.clients n) k));
  waited = λ c past n act h r. client_left s c past n _ h.1.1.1 (waits_acts n (c.clients n) act r) (λ k left y f. inl (waits_last n (c.clients n) act));
  fallen = λ c past n h. client_left s c past n _ h.1.1.1 (falls_acts n c.handed (c.clients n) (handed_same s c past (h.0.0.0.0.0.1) n)) (λ k left y f. absurd cc);
  risen = λ c past n h. client_left s c past n _ h.1.1.1 (rises_acts n (c.clients n)) (λ k left y f. inl refl);
  loc = λ c past l ls ms h st. idle_left s c past (loc_becomes c l ls ms).entry h.1.1.1 (loc_idle ls st.lines);
  served = λ c past i place m armed h up at to. idle_left s c past (server_moves c i armed (server_row (Server i) (c.hosts i).state c.clock place (Whole m))).entry h.1.1.1 (idle_works any_message i (c.hosts i).state _ _ (serves_works any_message (Server i) (c.hosts i).state c.clock place m (λ rest. tt)));
  cut = λ c past i place m t h up at to. idle_left s c past (server_falls c i (lines.Given place ∷ blow_line i t.stops ∷ []) (in_step m c.clock t)).entry h.1.1.1 (blow_idle i t.stops);
  stopped = λ c past i h up. idle_left s c past (server_falls c i (lines.Crash (Server i) ∷ []) at_rest).entry h.1.1.1 refl;
  stop_set = λ c past i calls pick armed h up. idle_left s c past (server_set c i (lines.Stop (Server i) calls pick) armed).entry h.1.1.1 refl;
  fail_set = λ c past i call armed h up. idle_left s c past (server_set c i (lines.Fail (Server i) call) armed).entry h.1.1.1 refl;
  timed = λ c past i n b armed h up at. idle_left s c past (server_moves c i armed (back_timeout_row (Server i) (c.hosts i).state c.clock n b)).entry h.1.1.1 (idle_works any_message i (c.hosts i).state _ _ (times_works any_message (Server i) (c.hosts i).state c.clock n b));
  woken = λ c past i armed h up. idle_left s c past (server_moves c i armed (wake_row (Server i) (c.hosts i).state c.clock)).entry h.1.1.1 (idle_works any_message i (c.hosts i).state _ _ (wakes_works any_message (Server i) (c.hosts i).state c.clock));
  started = λ c past i after fall h down. idle_left s c past (server_rises c i (begun_by_disk (Server i) (c.hosts i).state after fall)).entry h.1.1.1
      (idle_works any_message i (c.hosts i).state _ _ (starts_works any_message (Server i) (c.hosts i).state c.clock c.count (begun_by_disk (Server i) (c.hosts i).state after fall) (disk_works any_message (Server i) (c.hosts i).state after fall (risen_lines (Server i) c.clock c.count (begun_by_disk (Server i) (c.hosts i).state after fall)) (any_cut fall) (risen_from (Server i) c.clock c.count (begun_by_disk (Server i) (c.hosts i).state after fall)))));
  early = λ c past i fall h down. idle_left s c past (server_falls c i (lines.Fault (Server i) ∷ []) fall).entry h.1.1.1 refl;
  midway = λ c past i after fall h down. idle_left s c past (server_stays c i (begun_by_disk (Server i) (c.hosts i).state after fall) (lines.Fault (Server i)) in_boot).entry h.1.1.1 (idle_works any_message i (c.hosts i).state _ _ (disk_works any_message (Server i) (c.hosts i).state after fall (lines.Fault (Server i) ∷ []) (any_cut fall) (one_from (Server i) true refl)));
  full = λ c past i after fall h down. idle_left s c past (server_stays c i (begun_by_disk (Server i) (c.hosts i).state after fall) (lines.Full (Server i)) at_rest).entry h.1.1.1 (idle_works any_message i (c.hosts i).state _ _ (disk_works any_message (Server i) (c.hosts i).state after fall (lines.Full (Server i) ∷ []) (any_cut fall) (one_from (Server i) true refl)));
}

pub due_kept : (s : Script) → IsKept (DueFacts s)
due_kept s c past x so h = (waits_kept s c past x so h.0, (each_moved (DueFacts s) (Behind (OursIn s)) (ours_moves s) c past x so h, ((homes_kept s c past x so (h.0.0, h.1.1.0)).1, each_moved (DueFacts s) (Behind (LeftIn s)) (left_moves s) c past x so h)))

-- ---- every step

abbrev DueStep : Script → Cell → List Entry → Moved → Type 0
DueStep s c past m = EachLine (IsDue s) m.entry.actor past [] m.entry.lines

works_due : (s : Script) (i : ℕ) (past : List Entry) (ls : List Line) → all_lines is_idle ls ≡ true → EachLine (IsDue s) (actors.Node (Server i)) past [] ls
works_due s i past ls h = idle_due s (actors.Node (Server i)) past [] ls h

key_is : (j : ℕ) (head : Head) (e n : ℕ) → head.to ≡ Client j → head.epoch ≡ e → head.number ≡ n → answered_key head ≡ record { node = Client j; epoch = e; number = n }
key_is j head e n to epoch number = ap (λ (m : Node). a_key m head.epoch head.number) to ∙ (ap (λ (i : ℕ). a_key (Client j) i head.number) epoch ∙ ap (λ (i : ℕ). a_key (Client j) e i) number)

-- what it asked the location database is answered
abbrev SoughtCause : Script → ℕ → Seek → List Entry → Code → List Line → Type 0
SoughtCause s n k past code own = IsReplied s (Client n) k.act code.0 past own ⊎ (IsDone s (Client n) k.act code.0 past own ⊎ (IsDead s (Client n) k.act code.0 past own ⊎ (IsGivenAtOnce s (Client n) k.act code.0 own ⊎ (IsUnlisted s (Client n) k.act code.0 past own ⊎ (IsUntold s (Client n) k.act code.0 past own ⊎ IsLeft s (Client n) k.act code.0 past own)))))

sought_cause : (s : Script) (n : ℕ) (k : Seek) (past : List Entry) (code : Code) → (k.left ≡ None → volume_at (locations s) k.operand ≡ None) → (k.left ≡ None → next k.act ≡ locates k.operand) → ((left : Left) → k.left ≡ Some left → WasReplied s (Client n) k.act left.code.0 past) → ((left : Left) → k.left ≡ Some left → IsOperandOf k.act k.operand)
    → (own : List Line) (heard : HasHeard s (Client n) k.operand past own) → sought.IsEnd k heard.reply.carried code → SoughtCause s n k past code own
sought_cause s n k past code unknown needs left its own heard (inl a) = inr (inr (inr (inr (inl (record { operand = k.operand; needs = needs a.0; heard = heard; is = a.1.1; none = unknown a.0; told = a.1.0 })))))
sought_cause s n k past code unknown needs left its own heard (inr (inl a)) = inr (inr (inr (inr (inr (inr (record { left = a.0.code.0; replied = left a.0 a.1.0; operand = k.operand; its = its a.0 a.1.0; heard = heard; is = inr (a.1.1.1, a.1.1.0) }))))))
sought_cause s n k past code unknown needs left its own heard (inr (inr a)) = inr (inr (inr (inr (inr (inr (record { left = a.0.code.0; replied = left a.0 a.1.0; operand = k.operand; its = its a.0 a.1.0; heard = heard; is = inl (ap (λ (d : Code). d.0) a.1.1.0, a.1.1.1) }))))))

sought_due : (s : Script) (c : Cell) (past : List Entry) (n place : ℕ) (m : Message) (k : Seek) → GivenWaits s c past → LeftIn s c past → message_at c.sent place ≡ Some m → m.head.to ≡ Client n → (c.clients n).seeking ≡ Some k → is_sought (Client n) (c.clients n) k m.head m.carried ≡ true → Due s n past [] (sought_by (Client n) (c.clients n) c.clock place k m.head m.carried).lines
sought_due s c past n place m k h LF at to z e =
    let x : ClientState = c.clients n in
    let A : AskedIn s c past = h.0.0.0.0.1 in
    let q : IsSeeking s n x k past = A.seeks n k z in
    let p = both (is_answer m.carried && same_node m.head.to (Client n)) _ e in
    let u = both (same_node m.head.from Loc) _ p.1 in
    let v = both (nat_eq m.head.epoch x.epoch) _ u.1 in
    let w = both (nat_eq m.head.number x.last) _ v.1 in
    let key : last_key n x ≡ answered_key m.head = sym (key_is n m.head x.epoch x.last to (eqb-true m.head.epoch x.epoch v.0) (eqb-true m.head.number x.last w.0)) in
    let heard : HasCode m.carried → HasHeard s (Client n) k.operand past (lines.Given place ∷ []) = λ code. record {
      reply = m;
      by = ap (λ (ms : List Message). message_at ms place) h.0.0.0.0.0.hears.told ∙ at;
      is_reply = reply_is m.head m.carried code (each_at (λ (y : Message). IsFirm y.head y.carried) c.sent place m at h.0.0.1);
      from = same_node-true m.head.from Loc u.0;
      to = to;
      before = refl;
      opcode = eqb-true m.head.opcode (cell_rows.call_number (ask.Location (question k.operand))) w.1;
      called = subst (λ (y : Key). AskedSince y (user_at s n) (question k.operand) past) key q.asked;
      last = its_last h.0.0.0.0.0.keys.callees c.clients n (answered_key m.head) (sent_of past) (sym key) (subst (Each (IfCall (KnownBy h.0.0.0.0.0.keys.callees c.clients))) (sym h.0.0.0.0.0.hears.told) h.0.0.0.0.0.keys.calls) (subst (Each (IfSeek (IsUpToLast c.clients))) (sym h.0.0.0.0.0.hears.told) A.upto);
    } in
    let runs : running s (Client n) (lines_of past) ≡ Some k.act = A.acts n ∙ (ap (λ (a : Option Going). act_by a x.seeking) q.idle ∙ ap act_sought z) in
    by_quiet (λ st. Due s n past [] st.lines) n x place k m.head m.carried (sought_by (Client n) x c.clock place k m.head m.carried) (sought_quiet s n x c.clock place k m.head m.carried (placed_in s c past n k A z) (told_in s c past n place m k A at e))
    (λ code y has. (
      tt,
      (
        record {
          act = k.act;
          runs = runs;
          cause = sought_cause s n k past code (placed_in s c past n k A z).unknown q.needs (λ left. LF n k left z) q.its (lines.Given place ∷ []) (heard has) y;
        },
        tt,
      ),
    ))
    (tt, tt) (tt, tt)

-- or it is timed out
pub asked_why : (s : Script) (n : ℕ) (k : Seek) (past : List Entry) (o : Option Left) → k.left ≡ o → (k.left ≡ None → next k.act ≡ locates k.operand) → ((left : Left) → k.left ≡ Some left → WasReplied s (Client n) k.act left.code.0 past) → ((left : Left) → k.left ≡ Some left → IsOperandOf k.act k.operand) → (next k.act ≡ locates k.operand) ⊎ ((left : ℤ) × (WasReplied s (Client n) k.act left past × IsOperandOf k.act k.operand))
asked_why s n k past None e needs left its = inl (needs e)
asked_why s n k past (Some l) e needs left its = inr (l.code.0, (left l e, its l e))

missed_due : (s : Script) (c : Cell) (past : List Entry) (n : ℕ) (k : Seek) (t : Bool) → AskedIn s c past → LeftIn s c past → (c.clients n).seeking ≡ Some k → nat_lt (c.clients n).tries 2 ≡ t → Due s n past [] (cond t (seeks_on (Client n) (c.clients n) k) (sought_ends (Client n) (c.clients n) (λ ls. timeout_line (Client n) (c.clients n) 3 ∷ ls) dead_code)).lines
missed_due s c past n k true A LF z e = (tt, tt)
missed_due s c past n k false A LF z e =
    let x : ClientState = c.clients n in
    let q : IsSeeking s n x k past = A.seeks n k z in (
      tt,
      (
        record {
          act = k.act;
          runs = A.acts n ∙ (ap (λ (a : Option Going). act_by a x.seeking) q.idle ∙ ap act_sought z);
          cause = inr (inr (inr (inr (inr (inl (record {
            is = refl;
            epoch = x.epoch;
            number = x.last;
            third = inl (refl, (q.callee, (refl, (refl, refl))));
            before = refl;
            operand = k.operand;
            called = q.asked;
            why = asked_why s n k past k.left refl q.needs (λ left. LF n k left z) q.its;
          }))))));
        },
        tt,
      ),
    )

due_moves : (s : Script) → EachMove (DueFacts s) (DueStep s)
due_moves s = record {
  void = λ c past h. (tt, tt);
  ticked = λ c past n h. (tt, tt);
  begun = λ c past n act h r z. begins_due s n c.clock (c.clients n) act past (λ z. h.1.0 z n) (h.0.0.0.0.0.1.table n);
  told = λ c past n place m h at to un. told_due s n c.clock place (c.clients n) m past (waiting_for s c past n place m h.0 h.1.1.0 at to);
  sought = λ c past n place m k h at to z e. sought_due s c past n place m k h.0 h.1.1.1 at to z e;
  missed = λ c past n k h r z. missed_due s c past n k (nat_lt (c.clients n).tries 2) h.0.0.0.0.0.1 h.1.1.1 z refl;
  loc = λ c past l ls ms h st. idle_due s (actors.Node Loc) past [] ls (loc_idle ls st.lines);
  waited = λ c past n act h r. waits_due s c past n act (nat_lt (c.clients n).tries 2) h.0.0.0.0.0.1 (h.0.1 n) r refl;
  fallen = λ c past n h. (tt, tt);
  risen = λ c past n h. (tt, tt);
  served = λ c past i place m armed h up at to. works_due s i past _ (idle_works any_message i (c.hosts i).state _ _ (serves_works any_message (Server i) (c.hosts i).state c.clock place m (λ rest. tt)));
  cut = λ c past i place m t h up at to. works_due s i past (lines.Given place ∷ blow_line i t.stops ∷ []) (blow_idle i t.stops);
  stopped = λ c past i h up. (tt, tt);
  stop_set = λ c past i calls pick armed h up. (tt, tt);
  fail_set = λ c past i call armed h up. (tt, tt);
  timed = λ c past i n b armed h up at. works_due s i past _ (idle_works any_message i (c.hosts i).state _ _ (times_works any_message (Server i) (c.hosts i).state c.clock n b));
  woken = λ c past i armed h up. works_due s i past _ (idle_works any_message i (c.hosts i).state _ _ (wakes_works any_message (Server i) (c.hosts i).state c.clock));
  started = λ c past i after fall h down. works_due s i past _
      (idle_works any_message i (c.hosts i).state _ _ (starts_works any_message (Server i) (c.hosts i).state c.clock c.count (begun_by_disk (Server i) (c.hosts i).state after fall) (disk_works any_message (Server i) (c.hosts i).state after fall (risen_lines (Server i) c.clock c.count (begun_by_disk (Server i) (c.hosts i).state after fall)) (any_cut fall) (risen_from (Server i) c.clock c.count (begun_by_disk (Server i) (c.hosts i).state after fall)))));
  early = λ c past i fall h down. (tt, tt);
  midway = λ c past i after fall h down. works_due s i past _ (idle_works any_message i (c.hosts i).state _ _ (disk_works any_message (Server i) (c.hosts i).state after fall (lines.Fault (Server i) ∷ []) (any_cut fall) (one_from (Server i) true refl)));
  full = λ c past i after fall h down. works_due s i past _ (idle_works any_message i (c.hosts i).state _ _ (disk_works any_message (Server i) (c.hosts i).state after fall (lines.Full (Server i) ∷ []) (any_cut fall) (one_from (Server i) true refl)));
}

pub due_first : (s : Script) → DueFacts s (start s) (set_up_entry s ∷ [])
due_first s = (waits_first s, (λ z j. record { cache = tt; callee = λ act e. absurd cc }, (((λ j act r. absurd cc, λ j. tt), tt), λ j k left z e. absurd cc)))

pub run_due : AnswersAreDue
run_due s h end r = run_each (DueFacts s) (λ past e. EachLine (IsDue s) e.actor past [] e.lines) (due_kept s) (λ c past x so k. each_moved (DueFacts s) (DueStep s) (due_moves s) c past x so k) r.inputs s (set_up_entry s ∷ []) h end (due_first s) r.leads
