use Rattle.law_legal.specs.LocLaws.{IsToldIn}
use Rattle.spec_history.specs.declared.acts.Operand.{Operand}
use Rattle.spec_history.specs.declared.acts.Act.{Act}
use Rattle.spec_history.specs.declared.lines.Line.TheVariants as lines
use Rattle.spec_history.specs.declared.scripts.Script.{Script}
use Rattle.spec_ideal.specs.Operations.{volume_changed}
use Rattle.law_legal.proofs.ActLines.{Acts, who_at}
use Rattle.law_legal.proofs.ActSteps.{begins_acts, falls_acts, given_acts, rises_acts, waits_acts, IsPlaced, missed_acts, by_quiet, sought_quiet}
use Rattle.law_legal.proofs.KeptApart.{apart_filter, found_filter}
use Rattle.law_legal.proofs.OwedPasses.{all_lines}
use Rattle.law_legal.proofs.BaseLaws.{at_put, both, each_at, found-cached-fid, same_fid-refl, same_fid-true, same_node-refl, same_node-true}
use Rattle.law_legal.proofs.ServerChooses.{disk_works, one_from, risen_from, risen_lines, serves_works, starts_works, times_works, wakes_works}
use Rattle.law_legal.proofs.BaseWords.{AreApart}
use Rattle.law_legal.proofs.ServerRefusesForGood.{IsFirm}
use Rattle.law_legal.proofs.ActFollows.{dropped_named, in_named}
use Rattle.law_legal.proofs.ClientGifts.{Given, given_first, given_kept}
use Rattle.law_legal.proofs.CallKeysOnce.{IsKnown, any_told, by_key}
use Rattle.law_legal.proofs.RunWalk.{Behind, EachMove, IsKept, each_moved, run_keeps}
use Rattle.law_legal.proofs.ActCalls.{Leaves, idle_leaves, is_idle, of_client, other_leaves, handed_same}
use Rattle.law_legal.proofs.ActCallsInRuns.{any_cut, any_message, blow_idle, idle_works, loc_idle, sought_acts_in, placed_in, told_in}
use Rattle.law_legal.specs.Breaks.{IsNamedIn}
use Rattle.law_legal.specs.ClientParts.{CachedAreFetched, IsFetchedEntry, lines_since_fetch}
use Rattle.law_legal.specs.Grants.{IsDropped, fetch_reply, has_fetched}
use Rattle.law_legal.specs.Ideal.{set_up_entry}
use Rattle.law_legal.specs.Past.{given_message, lines_of, onto, sent_of}
use Rattle.spec_model.specs.Calls as pairs
use Rattle.spec_model.specs.Calls.{Admitted, admitted}
use Rattle.afs_num.specs.Fids.{same_fid}
use Rattle.afs_num.specs.Nodes.{same_node}
use Rattle.afs_num.specs.declared.calls.AfsCallBack.{AfsCallBack}
use Rattle.afs_num.specs.declared.calls.AfsFetchStatus.{AfsFetchStatus}
use Rattle.afs_num.specs.declared.calls.AfsVolSync.{AfsVolSync}
use Rattle.afs_num.specs.declared.calls.FsCall.{FsCall}
use Rattle.afs_num.specs.declared.calls.FsCall.TheVariants as calls
use Rattle.afs_num.specs.declared.calls.FsReply.{FsReply}
use Rattle.afs_num.specs.declared.calls.FsReply.TheVariants as replies
use Rattle.afs_num.specs.declared.histories.Body.TheVariants as bodies
use Rattle.afs_num.specs.declared.histories.ReadBody.TheVariants as seen
use Rattle.afs_num.specs.declared.histories.ReadSource.TheVariants.{Fetched}
use Rattle.afs_num.specs.declared.messages.Call.TheVariants as ask
use Rattle.afs_num.specs.declared.messages.Carried.{Carried}
use Rattle.afs_num.specs.declared.messages.Carried.TheVariants as carried
use Rattle.afs_num.specs.declared.messages.Message.{Message}
use Rattle.afs_num.specs.declared.messages.Received.TheVariants.{Whole}
use Rattle.afs_num.specs.declared.messages.Reply.TheVariants as tell
use Rattle.afs_num.specs.declared.types.Code.{Code}
use Rattle.afs_num.specs.declared.types.Fid.{Fid}
use Rattle.afs_num.specs.declared.types.Head.{Head}
use Rattle.afs_num.specs.declared.types.Node.{Node}
use Rattle.afs_num.specs.declared.types.Node.TheVariants.{Client, Server}
use Rattle.spec_rows.specs.Callbacks.{put}
use Rattle.spec_rows.specs.ClientRow.{admits_call, awaits, begin_row, begins_by, behind_batch, body_told, breaks, call_of, client_row, counts, dead_code, reply_carried, drop_line, dropped, entries_told, cache_entry_told, find_cached, gift_of, with_given, given_up_in, gives_by, hears, ignores, in_order, is_awaited, stands_below, is_busy_code, is_among_fids, is_older, is_spent, is_trusted, left_in, most_busy, read_lines, replies_step, runs_carried, status_told, takes, takes_bulk, takes_data, takes_given, takes_list, takes_set, takes_shown, takes_status, timeout_line, timeout_row, trusted_in, untrusted_in, whole, without_fids, without_server, zero_code, asks_where, answers_step, seeking_for, is_gone_code, most_moved, volume_asked, sought_by, seek_timeout_row}
use Rattle.spec_rows.specs.Going.{ClientState, Going, Need, began, gives_back, next, with_read, operand_in, Seek}
use Rattle.law_legal.proofs.RunSteps.{blow_line, server_falls, server_moves, server_rises, server_set, server_stays, loc_becomes}
use Rattle.spec_rows.specs.Runs.{Cell, Entry, at_rest, begun_by_disk, in_boot, in_step, message_at, start, ticked, voided}
use Rattle.law_legal.proofs.RunSteps.{loc_becomes}
use Rattle.spec_rows.specs.ServerSteps.{back_timeout_row, server_row, wake_row}
use Rattle.spec_rows.specs.States.{CacheEntry, Gift}
use Rattle.spec_rows.specs.Steps.{Step}
use Rattle.std.proofs.Common.{suc, ◌+◌, ◌≡◌, ℕ, ◌⊎◌, inl, inr, Bool, true, false, cond, List, [], ◌∷◌, map, Option, Some, None, refl, sym, ap, subst, ◌∙◌, filter, not, nat_eq}
use Rattle.std.specs.Prelude.{◌&&◌, nat_lt}
use Rattle.law_legal.proofs.KeptRests.{IsFrom, IsNewEntry, IsOldEntry, Keeps, Spares, again_keeps, answer_tail, either_keeps, entries_keep, entry_keeps, left_old, no_tail, not_true, of_callee, plain_keeps, same_entries, same_old, stored_keeps, then_begun, then_given, told_keeps, walks_keeps}

-- ---- replies, by their calls

data_keeps : (n clock place : ℕ) (c : ClientState) (m : Message) (past : List Entry) (act : Going) (contents : List ℕ) (status : AfsFetchStatus) (callback : AfsCallBack) (sync : AfsVolSync) (call : FsCall) → AreApart c.cache → IsFrom n place c m past → Keeps n c.cache past (takes_data (Client n) c clock place act contents status callback sync call)
data_keeps n clock place c m past act contents status callback sync (calls.FetchData f position wanted) apart q = entry_keeps n clock place c m past act (cache_entry_told c.callee f status callback sync (Some (body_told status.file_type contents))) (seen.Contents (body_told status.file_type contents)) refl refl apart q
data_keeps n clock place c m past act contents status callback sync call apart q = plain_keeps n place c past call zero_code apart

shown_keeps : (n clock place : ℕ) (c : ClientState) (m : Message) (past : List Entry) (act : Going) (status : AfsFetchStatus) (callback : AfsCallBack) (sync : AfsVolSync) (call : FsCall) → AreApart c.cache → IsFrom n place c m past → Keeps n c.cache past (takes_shown (Client n) c clock place act status callback sync call)
shown_keeps n clock place c m past act status callback sync (calls.FetchStatus f) apart q = entry_keeps n clock place c m past act (cache_entry_told c.callee f status callback sync None) (seen.Status (status_told status)) refl refl apart q
shown_keeps n clock place c m past act status callback sync call apart q = plain_keeps n place c past call zero_code apart

list_keeps : (n clock place : ℕ) (c : ClientState) (past : List Entry) (act : Going) (text : List ℕ) (status : AfsFetchStatus) (sync : AfsVolSync) (call : FsCall) → AreApart c.cache → Keeps n c.cache past (takes_list (Client n) c clock place act text status sync call)
list_keeps n clock place c past act text status sync (calls.FetchAcl g) apart =
    walks_keeps n c clock c.cache (filter (λ e. not (is_older g status.sync_counter sync.release e)) c.cache) past
    (λ ls. read_lines (Client n) place (record { fid = g; index = status.sync_counter; source = Fetched; body = seen.AccessList text }) (dropped (Client n) (filter (is_older g status.sync_counter sync.release) c.cache) ls)) (with_read g (seen.AccessList text) act)
    (λ ls t f e found. (let x : IsOldEntry n c.cache (dropped (Client n) (filter (is_older g status.sync_counter sync.release) c.cache) ls) f e = left_old n c.cache (is_older g status.sync_counter sync.release) ls apart t f e found in
    inl (record { was = x.was; found = x.found; server = x.server; fetched = x.fetched; spares = λ o d. x.spares (lines.Read (Client n) g status.sync_counter Fetched (seen.AccessList text) ∷ lines.Given place ∷ o) d })))
    (apart_filter (λ e. not (is_older g status.sync_counter sync.release e)) c.cache apart)
list_keeps n clock place c past act text status sync call apart = plain_keeps n place c past call zero_code apart

status_keeps : (n clock place : ℕ) (c : ClientState) (past : List Entry) (f : Fid) (status : AfsFetchStatus) (call : FsCall) → AreApart c.cache → Keeps n c.cache past (takes_status (Client n) c clock place f status call)
status_keeps n clock place c past f status call apart = either_keeps (not c.spoiled && stands_below clock status.sync_counter (find_cached f c.cache)) n c.cache past _ _ (stored_keeps n place clock c past f status.sync_counter (status_told status) (λ body. body) apart) (plain_keeps n place c past call zero_code apart)

set_keeps : (n clock place : ℕ) (c : ClientState) (past : List Entry) (status : AfsFetchStatus) (call : FsCall) → AreApart c.cache → Keeps n c.cache past (takes_set (Client n) c clock place status call)
set_keeps n clock place c past status (calls.StoreData f set position wanted file_length contents) apart =
    either_keeps c.spoiled n c.cache past _ _ (plain_keeps n place c past (calls.StoreData f set position wanted file_length contents) zero_code apart) (stored_keeps n place clock c past f status.sync_counter (status_told status) (λ body. Some (bodies.File contents)) apart)
set_keeps n clock place c past status (calls.StoreAcl f acl) apart = status_keeps n clock place c past f status (calls.StoreAcl f acl) apart
set_keeps n clock place c past status (calls.StoreStatus f set) apart = status_keeps n clock place c past f status (calls.StoreStatus f set) apart
set_keeps n clock place c past status call apart = plain_keeps n place c past call zero_code apart

bulk_keeps : (n clock place : ℕ) (c : ClientState) (m : Message) (past : List Entry) (act : Going) (statuses : List AfsFetchStatus) (callbacks : List AfsCallBack) (sync : AfsVolSync) (call : FsCall) → AreApart c.cache → IsFrom n place c m past → Keeps n c.cache past (takes_bulk (Client n) c clock place act statuses callbacks sync call)
bulk_keeps n clock place c m past act statuses callbacks sync (calls.BulkStatus fids) apart q = entries_keep n clock place c m past act (entries_told c.callee sync fids statuses callbacks) (of_callee c.callee sync fids statuses callbacks) apart q
bulk_keeps n clock place c m past act statuses callbacks sync call apart q = plain_keeps n place c past call zero_code apart

gives_keeps : (n place : ℕ) (c : ClientState) (past : List Entry) (act : Going) (gs : List Gift) → AreApart c.cache → Keeps n c.cache past (gives_by (Client n) c (with_given place) act gs)
gives_keeps n place c past act [] apart = record { apart = apart; each = then_given n place c.cache past (lines.Answer (Client n) zero_code ∷ []) c.cache (same_old n c.cache (lines.Answer (Client n) zero_code ∷ []) (answer_tail n zero_code)) }
gives_keeps n place c past act (g ∷ gs) apart = again_keeps n place c (record c { gifts = g ∷ gs }) past act apart refl

given_keeps : (n place : ℕ) (c : ClientState) (past : List Entry) (act : Going) (call : FsCall) → AreApart c.cache → Keeps n c.cache past (takes_given (Client n) c place act call)
given_keeps n place c past act (calls.GiveUpCallBacks fids callbacks) apart = gives_keeps n place c past act (behind_batch c.gifts) apart
given_keeps n place c past act call apart = plain_keeps n place c past call zero_code apart

takes_keeps : (n clock place : ℕ) (c : ClientState) (m : Message) (past : List Entry) (act : Going) (call : FsCall) (reply : FsReply) → AreApart c.cache → IsFrom n place c m past → Keeps n c.cache past (takes (Client n) c clock place act call reply)
takes_keeps n clock place c m past act call (replies.FetchData contents status callback sync) apart q = data_keeps n clock place c m past act contents status callback sync call apart q
takes_keeps n clock place c m past act call (replies.FetchAcl text status sync) apart q = list_keeps n clock place c past act text status sync call apart
takes_keeps n clock place c m past act call (replies.FetchStatus status callback sync) apart q = shown_keeps n clock place c m past act status callback sync call apart q
takes_keeps n clock place c m past act call (replies.StoreData status sync) apart q = set_keeps n clock place c past status call apart
takes_keeps n clock place c m past act call (replies.StoreAcl status sync) apart q = set_keeps n clock place c past status call apart
takes_keeps n clock place c m past act call (replies.StoreStatus status sync) apart q = set_keeps n clock place c past status call apart
takes_keeps n clock place c m past act call (replies.BulkStatus statuses callbacks sync) apart q = bulk_keeps n clock place c m past act statuses callbacks sync call apart q
takes_keeps n clock place c m past act call replies.GiveUpCallBacks apart q = given_keeps n place c past act call apart
takes_keeps n clock place c m past act call reply apart q = plain_keeps n place c past call zero_code apart

pub record IsHeard (n place : ℕ) (head : Head) (x : Carried) (past : List Entry) : Type 0 where
  pub at : message_at (sent_of past) place ≡ Some (record { head = head; carried = x })
  pub to : head.to ≡ Client n
  pub firm : IsFirm head x

answer_keeps : (n place : ℕ) (c : ClientState) (code : Code) (past : List Entry) → AreApart c.cache → Keeps n c.cache past (answers_step (Client n) c place code)
answer_keeps n place c code past apart = record { apart = apart; each = then_given n place c.cache past (lines.Answer (Client n) code ∷ []) c.cache (same_old n c.cache (lines.Answer (Client n) code ∷ []) (answer_tail n code)) }

where_keeps : (n place : ℕ) (c : ClientState) (act : Going) (code : Code) (past : List Entry) (o : Option Operand) → AreApart c.cache → Keeps n c.cache past (asks_where (Client n) c place act code o)
where_keeps n place c act code past None apart = answer_keeps n place c code past apart
where_keeps n place c act code past (Some o) apart = told_keeps n place c (seeking_for (record c { moved = c.moved + 1 }) _ c.cache) past _ apart refl

counts_keeps : (n clock place : ℕ) (c : ClientState) (act : Going) (head : Head) (x : Carried) (past : List Entry) → AreApart c.cache → IsHeard n place head x past → is_awaited c act head ≡ true → Keeps n c.cache past (counts (Client n) c clock place act head x)
counts_keeps n clock place c act head (carried.Call user call) past apart w e = told_keeps n place c c past [] apart refl
counts_keeps n clock place c act head (carried.Refusal code) past apart w e =
    either_keeps (is_spent c act) n c.cache past _ _ (again_keeps n place c c past act apart refl)
    (either_keeps (is_busy_code code && nat_lt c.busy most_busy) n c.cache past _ _ (again_keeps n place c (record c { busy = c.busy + 1 }) past act apart refl)
    (either_keeps (is_gone_code code && nat_lt c.moved most_moved) n c.cache past _ _ (where_keeps n place c act code past (operand_in act (volume_asked (call_of c act))) apart) (answer_keeps n place c code past apart)))
counts_keeps n clock place c act head (carried.Reply (tell.File reply)) past apart w e =
    either_keeps (is_spent c act) n c.cache past _ _ (again_keeps n place c c past act apart refl)
    (takes_keeps n clock place c (record { head = head; carried = carried.Reply (tell.File reply) }) past act (call_of c act) reply apart
    (record { at = w.at; reply = (w.firm, tt); told = refl; to = w.to; from = same_node-true head.from c.callee (both (same_node head.from c.callee) _ e).0 }))
counts_keeps n clock place c act head (carried.Reply reply) past apart w e = told_keeps n place c c past [] apart refl
counts_keeps n clock place c act head carried.Notice past apart w e = told_keeps n place c _ past _ apart refl

awaited_keeps : (n clock place : ℕ) (c : ClientState) (act : Going) (head : Head) (x : Carried) (past : List Entry) (t : Bool) → AreApart c.cache → IsHeard n place head x past → is_awaited c act head ≡ t → Keeps n c.cache past (cond t (counts (Client n) c clock place act head x) (ignores c place))
awaited_keeps n clock place c act head x past true apart w e = counts_keeps n clock place c act head x past apart w e
awaited_keeps n clock place c act head x past false apart w e = told_keeps n place c c past [] apart refl

awaits_keeps : (n clock place : ℕ) (c : ClientState) (head : Head) (x : Carried) (past : List Entry) (o : Option Going) → AreApart c.cache → IsHeard n place head x past → Keeps n c.cache past (awaits (Client n) c clock place head x o)
awaits_keeps n clock place c head x past None apart w = told_keeps n place c c past [] apart refl
awaits_keeps n clock place c head x past (Some act) apart w = awaited_keeps n clock place c act head x past (is_awaited c act head) apart w refl

-- ---- calls to it

spared : {A B : Type 0} → A ⊎ B → (A → ⊥) → B
spared (inl a) w = absurd (w a)
spared (inr b) w = b

-- a break drops what it names, and leaves the others
pub unnamed : (f : Fid) (fs : List Fid) (e : CacheEntry) → same_fid e.fid f ≡ true → is_among_fids e.fid fs ≡ false → IsNamedIn f fs → ⊥
unnamed f fs e same none x = let yes : is_among_fids e.fid fs ≡ true = in_named e.fid f fs (ap (λ (g : Fid). same_fid f g) (same_fid-true e.fid f same) ∙ same_fid-refl f) x in let no_ : false ≡ true = sym none ∙ yes in absurd cc

pub drops_fetched : (n : ℕ) (f : Fid) (fs : List Fid) → has_fetched (Client n) f (map (drop_line (Client n)) fs) ≡ false
drops_fetched n f [] = refl
drops_fetched n f (g ∷ fs) = drops_fetched n f fs

break_keeps : (n place : ℕ) (c y : ClientState) (head : Head) (fs : List Fid) (past : List Entry) (x : Carried) → AreApart c.cache → y.cache ≡ filter (λ e. not (is_among_fids e.fid fs)) c.cache → Keeps n c.cache past (replies_step y place head (map (drop_line (Client n)) fs) x)
break_keeps n place c y head fs past x apart same = record {
  apart = subst AreApart (sym same) (apart_filter (λ e. not (is_among_fids e.fid fs)) c.cache apart);
  each = λ f e found.
      let p = found_filter (λ u. not (is_among_fids u.fid fs)) f c.cache e apart (ap (find_cached f) (sym same) ∙ found) in
      inl (record { was = e; found = p.0; server = refl; fetched = drops_fetched n f fs; spares = λ o d. spared (dropped_named e.server n f fs (lines.Given place ∷ o) d) (unnamed f fs e (found-cached-fid f c.cache e p.0) (not_true (is_among_fids e.fid fs) p.1)) });
}

all_keeps : (n place : ℕ) (c y : ClientState) (head : Head) (past : List Entry) (x : Carried) → AreApart c.cache → y.cache ≡ filter (λ e. not (same_node e.server head.from)) c.cache → Keeps n c.cache past (replies_step y place head (lines.DropAll (Client n) head.from ∷ []) x)
all_keeps n place c y head past x apart same = record {
  apart = subst AreApart (sym same) (apart_filter (λ e. not (same_node e.server head.from)) c.cache apart);
  each = λ f e found.
      let p = found_filter (λ u. not (same_node u.server head.from)) f c.cache e apart (ap (find_cached f) (sym same) ∙ found) in
      inl (record { was = e; found = p.0; server = refl; fetched = refl; spares = λ o d. spared d (λ z. (let no_ : false ≡ true = sym (not_true (same_node e.server head.from) p.1) ∙ (ap (same_node e.server) z.1 ∙ same_node-refl e.server) in absurd cc)) });
}

breaks_keep : (n place : ℕ) (c : ClientState) (head : Head) (call : FsCall) (past : List Entry) → AreApart c.cache → Keeps n c.cache past (breaks (Client n) c place head call)
breaks_keep n place c head (calls.CallBack fs callbacks) past apart = break_keeps n place c (without_fids c fs) head fs past (reply_carried replies.CallBack) apart refl
breaks_keep n place c head calls.InitCallBackState past apart = all_keeps n place c (without_server c head.from) head past (reply_carried replies.InitCallBackState) apart refl
breaks_keep n place c head calls.Probe past apart = told_keeps n place c _ past _ apart refl
breaks_keep n place c head call past apart = told_keeps n place c _ past _ apart refl

carried_keeps : (n place : ℕ) (c : ClientState) (head : Head) (x : Carried) (past : List Entry) → AreApart c.cache → Keeps n c.cache past (runs_carried (Client n) c place head x)
carried_keeps n place c head (carried.Call user (ask.File call)) past apart = breaks_keep n place c head call past apart
carried_keeps n place c head (carried.Call user call) past apart = told_keeps n place c _ past _ apart refl
carried_keeps n place c head x past apart = told_keeps n place c c past [] apart refl

admits_keeps : (n place : ℕ) (c : ClientState) (head : Head) (x : Carried) (o : Admitted Message) (past : List Entry) → AreApart c.cache → Keeps n c.cache past (admits_call (Client n) c place head (whole head x) o)
admits_keeps n place c head x pairs.runs past apart = carried_keeps n place c head x past apart
admits_keeps n place c head x (pairs.kept reply) past apart = told_keeps n place c c past (reply ∷ []) apart refl
admits_keeps n place c head x pairs.in_progress past apart = told_keeps n place c c past [] apart refl
admits_keeps n place c head x pairs.older past apart = told_keeps n place c c past [] apart refl
admits_keeps n place c head x (pairs.wrong_boot boot) past apart = told_keeps n place c c past _ apart refl

hears_keeps : (n clock place : ℕ) (c : ClientState) (head : Head) (x : Carried) (past : List Entry) → AreApart c.cache → IsHeard n place head x past → Keeps n c.cache past (hears (Client n) c clock place head x)
hears_keeps n clock place c head (carried.Call user call) past apart w = admits_keeps n place c head (carried.Call user call) (admitted c.epoch c.seats head) past apart
hears_keeps n clock place c head x past apart w = awaits_keeps n clock place c head x past c.running apart w

-- ---- its steps

pub given_keep : (n clock place : ℕ) (c : ClientState) (m : Message) (past : List Entry) → AreApart c.cache → IsHeard n place m.head m.carried past → Keeps n c.cache past (client_row (Client n) c clock place (Whole m))
unfolding client_row
given_keep n clock place c m past apart w = either_keeps (same_node m.head.to (Client n)) n c.cache past _ _ (hears_keeps n clock place c m.head m.carried past apart w) (told_keeps n place c c past [] apart refl)

first_gives : (n clock : ℕ) (y : ClientState) (act : Act) (g : Going) (past : List Entry) (gs : List Gift) → AreApart y.cache → Keeps n y.cache past (gives_by (Client n) (record y { cache = untrusted_in clock y.cache }) (λ ls. lines.Begin (Client n) act ∷ dropped (Client n) (trusted_in clock y.cache) ls) g gs)
first_gives n clock y act g past [] apart = record {
  apart = apart_filter (λ e. not (is_trusted clock e)) y.cache apart;
  each = then_begun n act y.cache past (dropped (Client n) (trusted_in clock y.cache) (lines.Answer (Client n) zero_code ∷ [])) (untrusted_in clock y.cache) (left_old n y.cache (is_trusted clock) (lines.Answer (Client n) zero_code ∷ []) apart (answer_tail n zero_code));
}
first_gives n clock y act g past (x ∷ gs) apart = record {
  apart = apart_filter (λ e. not (is_trusted clock e)) y.cache apart;
  each = then_begun n act y.cache past (dropped (Client n) (trusted_in clock y.cache) []) (untrusted_in clock y.cache) (left_old n y.cache (is_trusted clock) [] apart (no_tail n));
}

first_keeps : (n clock : ℕ) (y : ClientState) (act : Act) (g : Going) (need : Need) (past : List Entry) → AreApart y.cache → Keeps n y.cache past (begins_by (Client n) y clock (λ ls. lines.Begin (Client n) act ∷ ls) g need)
first_keeps n clock y act g gives_back past apart = first_gives n clock y act g past (in_order (map gift_of (trusted_in clock y.cache))) apart
first_keeps n clock y act g need past apart = walks_keeps n y clock y.cache y.cache past (λ ls. lines.Begin (Client n) act ∷ ls) g (λ ls t. then_begun n act y.cache past ls y.cache (same_old n y.cache ls t)) apart

pub begins_keep : (n clock : ℕ) (c : ClientState) (act : Act) (past : List Entry) → AreApart c.cache → Keeps n c.cache past (begin_row (Client n) c clock act)
unfolding begin_row
begins_keep n clock c act past apart = first_keeps n clock (record c { busy = 0; moved = 0 }) act (began c.table act) (next (began c.table act)) past apart

dead_old : (n : ℕ) (cache : List CacheEntry) (o : Option ℕ) → AreApart cache → (f : Fid) (e : CacheEntry) → find_cached f (left_in o cache) ≡ Some e → IsOldEntry n cache (dropped (Client n) (given_up_in o cache) (lines.Answer (Client n) dead_code ∷ [])) f e
dead_old n cache None apart f e found = same_old n cache (lines.Answer (Client n) dead_code ∷ []) (answer_tail n dead_code) f e found
dead_old n cache (Some id) apart f e found = left_old n cache (λ x. nat_eq x.fid.volume id) (lines.Answer (Client n) dead_code ∷ []) apart (answer_tail n dead_code) f e found

dead_apart : (cache : List CacheEntry) (o : Option ℕ) → AreApart cache → AreApart (left_in o cache)
dead_apart cache None apart = apart
dead_apart cache (Some id) apart = apart_filter (λ x. not (nat_eq x.fid.volume id)) cache apart

pub waits_keep : (n : ℕ) (c : ClientState) (act : Going) (past : List Entry) → AreApart c.cache → Keeps n c.cache past (timeout_row (Client n) c act)
waits_keep n c act past apart =
    let o : Option ℕ = volume_changed (call_of c act) in
    either_keeps (nat_lt c.tries 2) n c.cache past _ _
    (record { apart = apart; each = λ f e found. same_entries n c.cache past (timeout_line (Client n) c (c.tries + 1) ∷ []) (record { fetched = λ g. refl; spares = λ q g o x. x }) f e found })
    (record {
      apart = dead_apart c.cache o apart;
      each = λ f e found. (let x : IsOldEntry n c.cache (dropped (Client n) (given_up_in o c.cache) (lines.Answer (Client n) dead_code ∷ [])) f e = dead_old n c.cache o apart f e found in
          inl (record { was = x.was; found = x.found; server = x.server; fetched = x.fetched; spares = λ p d. x.spares (timeout_line (Client n) c 3 ∷ p) d }));
    })

-- ---- every step

abbrev Rested : (ℕ → ClientState) → List Entry → Type 0
Rested clients past = (j : ℕ) → AreApart (clients j).cache × ((f : Fid) (e : CacheEntry) → find_cached f (clients j).cache ≡ Some e → IsFetchedEntry j f e past)

abbrev pub KeptIn : Cell → List Entry → Type 0
KeptIn c past = Rested c.clients past

abbrev pub GivenKept : Script → Cell → List Entry → Type 0
GivenKept s c past = Given s c past × KeptIn c past

-- behind an entry that leaves it
stays_kept : (j : ℕ) (f : Fid) (e u : CacheEntry) (x : Entry) (past : List Entry) → u.server ≡ e.server → has_fetched (Client j) f x.lines ≡ false → Spares e.server j f x.lines → IsFetchedEntry j f u past → IsFetchedEntry j f e (x ∷ past)
stays_kept j f e u x past server none spares h = record {
  reply = h.reply;
  by = ap (λ (t : Bool). cond t (given_message x.lines (sent_of past)) (fetch_reply (Client j) f past)) none ∙ h.by;
  is_reply = h.is_reply;
  told = h.told;
  to = h.to;
  from = h.from ∙ server;
  kept = λ d. h.kept (subst (λ (q : Node). IsDropped q (Client j) f (lines_since_fetch (Client j) f past)) (sym server) (spares (lines_since_fetch (Client j) f past) (subst (IsDropped e.server (Client j) f) (ap (λ (t : Bool). cond t (onto [] x.lines) (onto (lines_since_fetch (Client j) f past) x.lines)) none) d)));
}

new_kept : (j : ℕ) (f : Fid) (e : CacheEntry) (x : Entry) (past : List Entry) → IsNewEntry j past x.lines f e → IsFetchedEntry j f e (x ∷ past)
new_kept j f e x past h = record {
  reply = h.reply;
  by = ap (λ (t : Bool). cond t (given_message x.lines (sent_of past)) (fetch_reply (Client j) f past)) h.fetched ∙ h.given;
  is_reply = h.is_reply;
  told = h.told;
  to = h.to;
  from = h.from;
  kept = λ d. h.kept (subst (IsDropped e.server (Client j) f) (ap (λ (t : Bool). cond t (onto [] x.lines) (onto (lines_since_fetch (Client j) f past) x.lines)) h.fetched) d);
}

own_kept : (n : ℕ) (c : ClientState) (st : Step ClientState) (past : List Entry) → ((f : Fid) (e : CacheEntry) → find_cached f c.cache ≡ Some e → IsFetchedEntry n f e past) → Keeps n c.cache past st → (f : Fid) (e : CacheEntry) → find_cached f st.state.cache ≡ Some e → IsFetchedEntry n f e (of_client n st ∷ past)
own_kept n c st past h k f e found = elim (k.each f e found) [
  | inl x ↦ stays_kept n f e x.was (of_client n st) past x.server x.fetched x.spares (h f x.was x.found)
  | inr x ↦ new_kept n f e (of_client n st) past x
]

-- an act that waits for the location database leaves the cache
pub sought_keep : (s : Script) (n : ℕ) (c : ClientState) (clock place : ℕ) (k : Seek) (m : Message) (past : List Entry) → IsPlaced s c k → IsToldIn s m.carried → AreApart c.cache → Keeps n c.cache past (sought_by (Client n) c clock place k m.head m.carried)
sought_keep s n c clock place k m past p w apart =
    by_quiet (Keeps n c.cache past) n c place k m.head m.carried (sought_by (Client n) c clock place k m.head m.carried) (sought_quiet s n c clock place k m.head m.carried p w)
    (λ code x y. record { apart = apart; each = then_given n place c.cache past (lines.Answer (Client n) code ∷ []) c.cache (same_old n c.cache (lines.Answer (Client n) code ∷ []) (answer_tail n code)) })
    (told_keeps n place c c past [] apart refl) (told_keeps n place c _ past _ apart refl)

pub missed_keep : (n : ℕ) (c : ClientState) (k : Seek) (past : List Entry) → AreApart c.cache → Keeps n c.cache past (seek_timeout_row (Client n) c k)
missed_keep n c k past apart = either_keeps (nat_lt c.tries 2) n c.cache past _ _
    (record { apart = apart; each = λ f e found. same_entries n c.cache past (timeout_line (Client n) c (c.tries + 1) ∷ []) (record { fetched = λ g. refl; spares = λ q g o x. x }) f e found })
    (record { apart = apart; each = λ f e found. same_entries n c.cache past (timeout_line (Client n) c 3 ∷ lines.Answer (Client n) dead_code ∷ []) (record { fetched = λ g. refl; spares = λ q g o x. x }) f e found })

client_kept : (s : Script) (c : Cell) (past : List Entry) (n : ℕ) (st : Step ClientState) → KeptIn c past → Acts n (who_at (c.clients n)) (c.clients n).gifts st → Keeps n (c.clients n).cache past st → Rested (put n st.state c.clients) (of_client n st ∷ past)
client_kept s c past n st h a k j =
    at_put n j (λ (x : ClientState). AreApart x.cache × ((f : Fid) (e : CacheEntry) → find_cached f x.cache ≡ Some e → IsFetchedEntry j f e (of_client n st ∷ past))) st.state c.clients
    (λ same. subst (λ (i : ℕ). AreApart st.state.cache × ((f : Fid) (e : CacheEntry) → find_cached f st.state.cache ≡ Some e → IsFetchedEntry i f e (of_client n st ∷ past))) same (k.apart, own_kept n (c.clients n) st past (h n).1 k))
    (λ other. let l : Leaves s j st.lines (lines_of past) = other_leaves s n j st.lines (lines_of past) a.of other in
    ((h j).0, λ f e found. stays_kept j f e e (of_client n st) past refl (l.fetched f) (λ o d. (other_leaves s n j st.lines o a.of other).dropped e.server f d) ((h j).1 f e found)))

idle_kept : (s : Script) (c : Cell) (past : List Entry) (x : Entry) → KeptIn c past → all_lines is_idle x.lines ≡ true → Rested c.clients (x ∷ past)
idle_kept s c past x h idle j = ((h j).0, λ f e found. stays_kept j f e e x past refl ((idle_leaves s j x.lines (lines_of past) idle).fetched f) (λ o d. (idle_leaves s j x.lines o idle).dropped e.server f d) ((h j).1 f e found))

pub heard_now : (s : Script) (c : Cell) (past : List Entry) (n place : ℕ) (m : Message) → Given s c past → message_at c.sent place ≡ Some m → m.head.to ≡ Client n → IsHeard n place m.head m.carried past
heard_now s c past n place m h at to = record { at = ap (λ (ms : List Message). message_at ms place) h.0.0.0.0.hears.told ∙ at; to = to; firm = each_at (λ m. IsFirm m.head m.carried) c.sent place m at h.0.1 }

kept_moves : (s : Script) → EachMove (GivenKept s) (Behind KeptIn)
kept_moves s = record {
  void = λ c past h. idle_kept s c past (voided c).entry h.1 refl;
  ticked = λ c past n h. idle_kept s c past (ticked c (suc n)).entry h.1 refl;
  begun = λ c past n act h r z. client_kept s c past n _ h.1 (begins_acts n (c.clients n) c.clock act r z) (begins_keep n c.clock (c.clients n) act past (h.1 n).0);
  told = λ c past n place m h at to un. client_kept s c past n _ h.1 (given_acts (by_key (IsKnown h.0.0.0.0.0.keys.callees c.clients)) any_told n (c.clients n) c.clock place m (h.0.0.0.0.0.keys.replies n) (h.0.0.0.0.1.seats n)) (given_keep n c.clock place (c.clients n) m past (h.1 n).0 (heard_now s c past n place m h.0 at to));
  sought = λ c past n place m k h at to z e. client_kept s c past n _ h.1 (sought_acts_in s c past n place m k h.0.0.0.0.1 at z e) (sought_keep s n (c.clients n) c.clock place k m past (placed_in s c past n k h.0.0.0.0.1 z) (told_in s c past n place m k h.0.0.0.0.1 at e) (h.1 n).0);
  missed = λ c past n k h r z. client_kept s c past n _ h.1 (missed_acts n (c.clients n) k r z) (missed_keep n (c.clients n) k past (h.1 n).0);
  loc = λ c past l ls ms h st. idle_kept s c past (loc_becomes c l ls ms).entry h.1 (loc_idle ls st.lines);
  waited = λ c past n act h r. client_kept s c past n _ h.1 (waits_acts n (c.clients n) act r) (waits_keep n (c.clients n) act past (h.1 n).0);
  fallen = λ c past n h. client_kept s c past n _ h.1 (falls_acts n c.handed (c.clients n) (handed_same s c past (h.0.0.0.0.1) n)) (record { apart = tt; each = λ f e found. absurd cc });
  risen = λ c past n h. client_kept s c past n _ h.1 (rises_acts n (c.clients n)) (record { apart = (h.1 n).0; each = λ f e found. same_entries n (c.clients n).cache past (lines.Restart (Client n) (c.clients n).epoch ∷ []) (record { fetched = λ g. refl; spares = λ q g o x. x }) f e found });
  served = λ c past i place m armed h up at to. idle_kept s c past (server_moves c i armed (server_row (Server i) (c.hosts i).state c.clock place (Whole m))).entry h.1 (idle_works any_message i (c.hosts i).state _ _ (serves_works any_message (Server i) (c.hosts i).state c.clock place m (λ rest. tt)));
  cut = λ c past i place m t h up at to. idle_kept s c past (server_falls c i (lines.Given place ∷ blow_line i t.stops ∷ []) (in_step m c.clock t)).entry h.1 (blow_idle i t.stops);
  stopped = λ c past i h up. idle_kept s c past (server_falls c i (lines.Crash (Server i) ∷ []) at_rest).entry h.1 refl;
  stop_set = λ c past i calls pick armed h up. idle_kept s c past (server_set c i (lines.Stop (Server i) calls pick) armed).entry h.1 refl;
  fail_set = λ c past i call armed h up. idle_kept s c past (server_set c i (lines.Fail (Server i) call) armed).entry h.1 refl;
  timed = λ c past i n b armed h up at. idle_kept s c past (server_moves c i armed (back_timeout_row (Server i) (c.hosts i).state c.clock n b)).entry h.1 (idle_works any_message i (c.hosts i).state _ _ (times_works any_message (Server i) (c.hosts i).state c.clock n b));
  woken = λ c past i armed h up. idle_kept s c past (server_moves c i armed (wake_row (Server i) (c.hosts i).state c.clock)).entry h.1 (idle_works any_message i (c.hosts i).state _ _ (wakes_works any_message (Server i) (c.hosts i).state c.clock));
  started = λ c past i after fall h down. idle_kept s c past (server_rises c i (begun_by_disk (Server i) (c.hosts i).state after fall)).entry h.1 (idle_works any_message i (c.hosts i).state _ _ (starts_works any_message (Server i) (c.hosts i).state c.clock c.count (begun_by_disk (Server i) (c.hosts i).state after fall) (disk_works any_message (Server i) (c.hosts i).state after fall (risen_lines (Server i) c.clock c.count (begun_by_disk (Server i) (c.hosts i).state after fall)) (any_cut fall) (risen_from (Server i) c.clock c.count (begun_by_disk (Server i) (c.hosts i).state after fall)))));
  early = λ c past i fall h down. idle_kept s c past (server_falls c i (lines.Fault (Server i) ∷ []) fall).entry h.1 refl;
  midway = λ c past i after fall h down. idle_kept s c past (server_stays c i (begun_by_disk (Server i) (c.hosts i).state after fall) (lines.Fault (Server i)) in_boot).entry h.1 (idle_works any_message i (c.hosts i).state _ _ (disk_works any_message (Server i) (c.hosts i).state after fall (lines.Fault (Server i) ∷ []) (any_cut fall) (one_from (Server i) true refl)));
  full = λ c past i after fall h down. idle_kept s c past (server_stays c i (begun_by_disk (Server i) (c.hosts i).state after fall) (lines.Full (Server i)) at_rest).entry h.1 (idle_works any_message i (c.hosts i).state _ _ (disk_works any_message (Server i) (c.hosts i).state after fall (lines.Full (Server i) ∷ []) (any_cut fall) (one_from (Server i) true refl)));
}

pub kept_kept : (s : Script) → IsKept (GivenKept s)
kept_kept s c past x so h = (given_kept s c past x so h.0, each_moved (GivenKept s) (Behind KeptIn) (kept_moves s) c past x so h)

pub kept_first : (s : Script) → GivenKept s (start s) (set_up_entry s ∷ [])
kept_first s = (given_first s, λ j. (tt, λ f e found. absurd cc))

pub run_kept : CachedAreFetched
run_kept s h end r j f e found = ((run_keeps (GivenKept s) (kept_kept s) r.inputs s (set_up_entry s ∷ []) h end (kept_first s) r.leads).1 j).1 f e found
