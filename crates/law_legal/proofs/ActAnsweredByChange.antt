-- A client that is given the answer to its change answers its act with it, however many servers a cell has.
use Rattle.law_legal.proofs.ActAnswersCaused.{called_server}
use Rattle.law_legal.proofs.ActIsDue.{gone_code}
use Rattle.law_legal.proofs.ActLines.{last_key}
use Rattle.spec_history.specs.declared.acts.Operand.{Operand}
use Rattle.law_legal.proofs.ClientCallsAtHome.{IsHome, Addressed, homes_kept, IsServer, homes_first}
use Rattle.spec_history.specs.declared.lines.Line.{Line}
use Rattle.spec_history.specs.declared.lines.Line.TheVariants as lines
use Rattle.spec_history.specs.declared.scripts.Script.{Script}
use Rattle.spec_ideal.specs.Operations.{is_number, volume_changed}
use Rattle.law_legal.proofs.BaseLaws.{both, each_at, same_node-refl, some_of, IfCall, Each}
use Rattle.law_legal.proofs.VolumeChanges.{run_each}
use Rattle.law_legal.proofs.RunGivenWasSent.{begun_ungiven, waited_ungiven, missed_ungiven}
use Rattle.law_legal.proofs.ServerRefusesForGood.{IsFirm}
use Rattle.law_legal.proofs.ActFollows.{firm_busy}
use Rattle.law_legal.proofs.ServerHearsInRuns.{client_given}
use Rattle.law_legal.proofs.ClientCallsInTurn.{IsTheLast, is_the_last, seek_is_last, KnownBy}
use Rattle.law_legal.proofs.RunWalk.{EachMove, each_moved}
use Rattle.law_legal.proofs.ActCallsInRuns.{KnownAsked}
use Rattle.law_legal.proofs.ClientTimeouts.{dead_answer}
use Rattle.law_legal.proofs.ClientTakesReply.{UnansweredFacts, unanswered_first, unanswered_kept}
use Rattle.law_legal.proofs.ReadUses.{none_given}
use Rattle.law_legal.proofs.BaseWords.{is_passing}
use Rattle.law_legal.specs.Ideal.{set_up_entry}
use Rattle.law_legal.specs.Legal.{HasAnswer, HearsAnswer, IsFileReply, TakesReply, HearsOfAct, AsksLoc, IsGoneNumber}
use Rattle.law_legal.specs.Parts.{EachEntry}
use Rattle.law_legal.specs.Past.{code_told, has_given, sent_of, answered_key}
use Rattle.afs_num.specs.Nodes.{same_node}
use Rattle.afs_num.specs.declared.calls.AfsCallBack.{AfsCallBack}
use Rattle.afs_num.specs.declared.calls.AfsFetchStatus.{AfsFetchStatus}
use Rattle.afs_num.specs.declared.calls.AfsVolSync.{AfsVolSync}
use Rattle.afs_num.specs.declared.calls.FsCall.{FsCall}
use Rattle.afs_num.specs.declared.calls.FsCall.TheVariants as calls
use Rattle.afs_num.specs.declared.calls.FsReply.{FsReply}
use Rattle.afs_num.specs.declared.calls.FsReply.TheVariants as replies
use Rattle.afs_num.specs.declared.histories.Actor.TheVariants as actors
use Rattle.afs_num.specs.declared.messages.Carried.{Carried}
use Rattle.afs_num.specs.declared.messages.Carried.TheVariants as carried
use Rattle.afs_num.specs.declared.messages.Message.{Message}
use Rattle.afs_num.specs.declared.messages.Received.TheVariants.{Whole}
use Rattle.afs_num.specs.declared.messages.Reply.TheVariants as tell
use Rattle.afs_num.specs.declared.types.Code.{Code}
use Rattle.afs_num.specs.declared.types.Fid.{Fid}
use Rattle.afs_num.specs.declared.types.Head.{Head}
use Rattle.afs_num.specs.declared.types.Node.{Node}
use Rattle.afs_num.specs.declared.types.Node.TheVariants.{Client, Server, Loc}
use Rattle.spec_rows.specs.ClientRow.{answers_step, awaits, begin_row, call_of, calls_again, client_row, counts, dropped_after, find_cached, hears, ignores, is_awaited, stands_below, is_busy_code, is_reading, most_busy, refuses, takes, takes_bulk, takes_data, takes_given, takes_list, takes_plain, takes_set, takes_shown, takes_status, timeout_row, zero_code, seek_timeout_row, is_gone_code, most_moved, act_by, asks_where, volume_asked, refuses_for_good}
use Rattle.spec_rows.specs.Going.{ClientState, Going, operand_in, Seek}
use Rattle.spec_rows.specs.Runs.{Cell, Entry, Moved, RunsTo, message_at, start}
use Rattle.spec_rows.specs.Steps.{Step}
use Rattle.std.proofs.Common.{◌⊎◌, ◌+◌, ◌≡◌, ℕ, ℤ, inl, inr, Bool, true, false, cond, List, [], ◌∷◌, not, Option, Some, None, pos, refl, sym, ap, subst, ◌∙◌}
use Rattle.std.specs.Prelude.{◌&&◌, nat_lt}

-- ---- the step answers the act

abbrev Answers : ℕ → ℤ → Step ClientState → Type 0
Answers n code st = HasAnswer (Client n) code st.lines

either_answers : (t : Bool) (n : ℕ) (code : ℤ) (a b : Step ClientState) → Answers n code a → Answers n code b → Answers n code (cond t a b)
either_answers true n code a b h k = h
either_answers false n code a b h k = k

plain_answers : (n place : ℕ) (c : ClientState) (call : FsCall) → Answers n (pos 0) (takes_plain (Client n) c place call)
plain_answers n place c call = dead_answer (Client n) (dropped_after call c.cache) zero_code

status_answers : (n clock place : ℕ) (c : ClientState) (f : Fid) (status : AfsFetchStatus) (call : FsCall) → Answers n (pos 0) (takes_status (Client n) c clock place f status call)
status_answers n clock place c f status call = either_answers (not c.spoiled && stands_below clock status.sync_counter (find_cached f c.cache)) n (pos 0) _ _ (inl (refl, refl)) (plain_answers n place c call)

set_answers : (n clock place : ℕ) (c : ClientState) (status : AfsFetchStatus) (call : FsCall) → Answers n (pos 0) (takes_set (Client n) c clock place status call)
set_answers n clock place c status (calls.StoreData f set position wanted file_length contents) = either_answers c.spoiled n (pos 0) _ _ (plain_answers n place c (calls.StoreData f set position wanted file_length contents)) (inl (refl, refl))
set_answers n clock place c status (calls.StoreAcl f acl) = status_answers n clock place c f status (calls.StoreAcl f acl)
set_answers n clock place c status (calls.StoreStatus f set) = status_answers n clock place c f status (calls.StoreStatus f set)
set_answers n clock place c status call = plain_answers n place c call

-- a call that may change something is none by which an act reads
abbrev Changes : FsCall → Type 0
Changes call = (id : ℕ) × (volume_changed call ≡ Some id)

data_answers : (n clock place : ℕ) (c : ClientState) (act : Going) (contents : List ℕ) (status : AfsFetchStatus) (callback : AfsCallBack) (sync : AfsVolSync) (call : FsCall) → Changes call → Answers n (pos 0) (takes_data (Client n) c clock place act contents status callback sync call)
data_answers n clock place c act contents status callback sync (calls.FetchData f position wanted) e = let no_ : None ≡ Some e.0 = e.1 in absurd cc
data_answers n clock place c act contents status callback sync call e = plain_answers n place c call

shown_answers : (n clock place : ℕ) (c : ClientState) (act : Going) (status : AfsFetchStatus) (callback : AfsCallBack) (sync : AfsVolSync) (call : FsCall) → Changes call → Answers n (pos 0) (takes_shown (Client n) c clock place act status callback sync call)
shown_answers n clock place c act status callback sync (calls.FetchStatus f) e = let no_ : None ≡ Some e.0 = e.1 in absurd cc
shown_answers n clock place c act status callback sync call e = plain_answers n place c call

list_answers : (n clock place : ℕ) (c : ClientState) (act : Going) (text : List ℕ) (status : AfsFetchStatus) (sync : AfsVolSync) (call : FsCall) → Changes call → Answers n (pos 0) (takes_list (Client n) c clock place act text status sync call)
list_answers n clock place c act text status sync (calls.FetchAcl f) e = let no_ : None ≡ Some e.0 = e.1 in absurd cc
list_answers n clock place c act text status sync call e = plain_answers n place c call

bulk_answers : (n clock place : ℕ) (c : ClientState) (act : Going) (statuses : List AfsFetchStatus) (callbacks : List AfsCallBack) (sync : AfsVolSync) (call : FsCall) → Changes call → Answers n (pos 0) (takes_bulk (Client n) c clock place act statuses callbacks sync call)
bulk_answers n clock place c act statuses callbacks sync (calls.BulkStatus fids) e = let no_ : None ≡ Some e.0 = e.1 in absurd cc
bulk_answers n clock place c act statuses callbacks sync call e = plain_answers n place c call

given_answers : (n place : ℕ) (c : ClientState) (act : Going) (call : FsCall) → Changes call → Answers n (pos 0) (takes_given (Client n) c place act call)
given_answers n place c act (calls.GiveUpCallBacks fids callbacks) e = let no_ : None ≡ Some e.0 = e.1 in absurd cc
given_answers n place c act call e = plain_answers n place c call

takes_answers : (n clock place : ℕ) (c : ClientState) (act : Going) (call : FsCall) (reply : FsReply) → Changes call → Answers n (pos 0) (takes (Client n) c clock place act call reply)
takes_answers n clock place c act call (replies.FetchData contents status callback sync) e = data_answers n clock place c act contents status callback sync call e
takes_answers n clock place c act call (replies.FetchAcl text status sync) e = list_answers n clock place c act text status sync call e
takes_answers n clock place c act call (replies.FetchStatus status callback sync) e = shown_answers n clock place c act status callback sync call e
takes_answers n clock place c act call (replies.StoreData status sync) e = set_answers n clock place c status call
takes_answers n clock place c act call (replies.StoreAcl status sync) e = set_answers n clock place c status call
takes_answers n clock place c act call (replies.StoreStatus status sync) e = set_answers n clock place c status call
takes_answers n clock place c act call (replies.BulkStatus statuses callbacks sync) e = bulk_answers n clock place c act statuses callbacks sync call e
takes_answers n clock place c act call replies.GiveUpCallBacks e = given_answers n place c act call e
takes_answers n clock place c act call reply e = plain_answers n place c call

-- a refusal that isn't to be tried again
busy_not : (t u : Bool) → t ≡ false → (t && u) ≡ false
busy_not true u e = absurd cc
busy_not false u e = refl

-- the step answers the act, or asks where its volume is
abbrev TakesIt : ℕ → ℤ → Step ClientState → Type 0
TakesIt n code st = Answers n code st ⊎ (IsGoneNumber code × AsksLoc (Client n) st.sent)

where_takes : (n place : ℕ) (c : ClientState) (act : Going) (code : Code) (o : Option Operand) → is_gone_code code ≡ true → TakesIt n code.0 (asks_where (Client n) c place act code o)
where_takes n place c act code None gone = inl (inl (refl, refl))
where_takes n place c act code (Some o) gone = inr (gone_code code (is_number code.0 103) (is_number code.0 111) refl refl gone, inl (refl, (refl, tt)))

for_good_takes : (t : Bool) (n place : ℕ) (c : ClientState) (act : Going) (code : Code) (o : Option Operand) → (is_gone_code code && nat_lt c.moved most_moved) ≡ t → TakesIt n code.0 (cond t (asks_where (Client n) c place act code o) (answers_step (Client n) c place code))
for_good_takes true n place c act code o e = where_takes n place c act code o (both (is_gone_code code) (nat_lt c.moved most_moved) e).0
for_good_takes false n place c act code o e = inl (inl (refl, refl))

refuses_takes : (n place : ℕ) (c : ClientState) (act : Going) (code : Code) → is_passing code.0 ≡ false → TakesIt n code.0 (refuses (Client n) c place act code)
refuses_takes n place c act code firm =
    subst (λ (t : Bool). TakesIt n code.0 (cond t (calls_again (Client n) (record c { busy = c.busy + 1 }) place act) (refuses_for_good (Client n) c place act code))) (sym (busy_not (is_busy_code code) (nat_lt c.busy most_busy) (firm_busy (is_number code.0 0) (is_busy_code code) firm)))
    (for_good_takes (is_gone_code code && nat_lt c.moved most_moved) n place c act code (operand_in act (volume_asked (call_of c act))) refl)

-- what answers a change counts, though a break came before it
not_spent : (t : Bool) (o : Option ℕ) (id : ℕ) → o ≡ Some id → (t && is_reading o) ≡ false
not_spent true None id e = absurd cc
not_spent true (Some k) id e = refl
not_spent false o id e = refl

unspent : (n place : ℕ) (z : ℤ) (c : ClientState) (act : Going) (st : Step ClientState) → Changes (call_of c act) → TakesIt n z st → TakesIt n z (cond (c.spoiled && is_reading (volume_changed (call_of c act))) (calls_again (Client n) c place act) st)
unspent n place z c act st e h = subst (λ (t : Bool). TakesIt n z (cond t (calls_again (Client n) c place act) st)) (sym (not_spent c.spoiled (volume_changed (call_of c act)) e.0 e.1)) h

counts_answers : (n clock place : ℕ) (c : ClientState) (act : Going) (head : Head) (x : Carried) (code : ℤ) → IsFileReply x → code_told x ≡ Some code → IsFirm head x → Changes (call_of c act) → TakesIt n code (counts (Client n) c clock place act head x)
counts_answers n clock place c act head (carried.Refusal r) code is told firm e = unspent n place code c act (refuses (Client n) c place act r) e (subst (λ (z : ℤ). TakesIt n z (refuses (Client n) c place act r)) (some_of r.0 code told) (refuses_takes n place c act r firm.1))
counts_answers n clock place c act head (carried.Reply (tell.File reply)) code is told firm e = unspent n place code c act (takes (Client n) c clock place act (call_of c act) reply) e (inl (subst (λ (z : ℤ). Answers n z (takes (Client n) c clock place act (call_of c act) reply)) (some_of (pos 0) code told) (takes_answers n clock place c act (call_of c act) reply e)))
counts_answers n clock place c act head (carried.Reply reply) code is told firm e = absurd is
counts_answers n clock place c act head (carried.Call user call) code is told firm e = absurd is
counts_answers n clock place c act head carried.Notice code is told firm e = absurd is

awaits_answers : (n clock place : ℕ) (c : ClientState) (act : Going) (head : Head) (x : Carried) (code : ℤ) → IsFileReply x → code_told x ≡ Some code → IsFirm head x → c.running ≡ Some act → is_awaited c act head ≡ true → Changes (call_of c act) → TakesIt n code (awaits (Client n) c clock place head x c.running)
awaits_answers n clock place c act head x code is told firm r w e =
    subst (λ (o : Option Going). TakesIt n code (awaits (Client n) c clock place head x o)) (sym r)
    (subst (λ (t : Bool). TakesIt n code (cond t (counts (Client n) c clock place act head x) (ignores c place))) (sym w) (counts_answers n clock place c act head x code is told firm e))

hears_answers : (n clock place : ℕ) (c : ClientState) (act : Going) (head : Head) (x : Carried) (code : ℤ) → IsFileReply x → code_told x ≡ Some code → IsFirm head x → c.running ≡ Some act → is_awaited c act head ≡ true → Changes (call_of c act) → TakesIt n code (hears (Client n) c clock place head x)
hears_answers n clock place c act head (carried.Refusal r) code is told firm run w e = awaits_answers n clock place c act head (carried.Refusal r) code is told firm run w e
hears_answers n clock place c act head (carried.Reply reply) code is told firm run w e = awaits_answers n clock place c act head (carried.Reply reply) code is told firm run w e
hears_answers n clock place c act head (carried.Call user call) code is told firm run w e = absurd is
hears_answers n clock place c act head carried.Notice code is told firm run w e = absurd is

row_answers : (n clock place : ℕ) (c : ClientState) (act : Going) (m : Message) (code : ℤ) → IsFileReply m.carried → code_told m.carried ≡ Some code → IsFirm m.head m.carried → m.head.to ≡ Client n → c.running ≡ Some act → is_awaited c act m.head ≡ true → Changes (call_of c act) → TakesIt n code (client_row (Client n) c clock place (Whole m))
unfolding client_row
row_answers n clock place c act m code is told firm to r w e =
    subst (λ (t : Bool). TakesIt n code (cond t (hears (Client n) c clock place m.head m.carried) (ignores c place))) (sym (ap (λ (q : Node). same_node q (Client n)) to ∙ same_node-refl (Client n))) (hears_answers n clock place c act m.head m.carried code is told firm r w e)

-- ---- the answer is the one that it awaits

abbrev TakingFacts : Script → Cell → List Entry → Type 0
TakingFacts s c past = UnansweredFacts s c past × Addressed s c past

no_loc_server : IsServer Loc → ⊥
no_loc_server x = let no : Loc ≡ Server x.0 = x.1 in absurd cc

-- while an act waits for the location database, no file server answers it
seek_hears : (s : Script) (c : Cell) (past : List Entry) (n : ℕ) (k : Seek) (ls : List Line) → TakingFacts s c past → (c.clients n).seeking ≡ Some k → HearsOfAct s (Client n) past ls → ⊥
seek_hears s c past n k ls h z g =
    let x : ClientState = c.clients n in
    let K : KnownAsked s c past = h.0.0.0.0.0.0.0.0.0 in
    let key : answered_key g.heard.message.head ≡ last_key n x = seek_is_last s c past n k g.heard.message.head K z g.heard.to g.heard.its in
    let known = subst (Each (IfCall (KnownBy K.0.keys.callees c.clients))) (sym K.0.hears.told) K.0.keys.calls in
    let homes = subst (Each (IfCall (IsHome s))) (sym K.0.hears.told) h.1.1.1 in
    let server : IsServer (K.0.keys.callees (answered_key g.heard.message.head)) = called_server s K.0.keys.callees c.clients n (answered_key g.heard.message.head) g.heard.its.user g.heard.its.call past g.heard.to g.called known homes in
    no_loc_server (subst IsServer (ap K.0.keys.callees key ∙ (K.0.keys.own n ∙ (K.1.seeks n k z).callee)) server)

-- so a server is waited for
runs_by : (s : Script) (c : Cell) (past : List Entry) (n : ℕ) (ls : List Line) (o : Option Going) (p : Option Seek) → TakingFacts s c past → (c.clients n).running ≡ o → (c.clients n).seeking ≡ p → (g : HearsOfAct s (Client n) past ls) → act_by o p ≡ Some g.act → o ≡ Some g.act
runs_by s c past n ls (Some a) p h r z g is = is
runs_by s c past n ls None (Some k) h r z g is = absurd (seek_hears s c past n k ls h z g)
runs_by s c past n ls None None h r z g is = absurd cc

hears_runs : (s : Script) (c : Cell) (past : List Entry) (n : ℕ) (ls : List Line) → TakingFacts s c past → (g : HearsOfAct s (Client n) past ls) → (c.clients n).running ≡ Some g.act
hears_runs s c past n ls h g = runs_by s c past n ls (c.clients n).running (c.clients n).seeking h refl refl g (sym (h.0.0.0.0.0.0.0.0.0.1.acts n) ∙ g.runs)

told_takes : (s : Script) (c : Cell) (past : List Entry) (n place : ℕ) (m : Message) → TakingFacts s c past → message_at c.sent place ≡ Some m → m.head.to ≡ Client n → TakesReply s (actors.Node (Client n)) past (client_row (Client n) (c.clients n) c.clock place (Whole m)).lines (client_row (Client n) (c.clients n) c.clock place (Whole m)).sent
told_takes s c past n place m h at to g id ch =
    let x : ClientState = c.clients n in
    let K : KnownAsked s c past = h.0.0.0.0.0.0.0.0.0 in
    let a : HearsAnswer (Client n) past (client_row (Client n) x c.clock place (Whole m)).lines = g.heard in
    let r : x.running ≡ Some g.act = hears_runs s c past n (client_row (Client n) x c.clock place (Whole m)).lines h g in
    let same : a.message ≡ m = some_of a.message m (sym a.given ∙ ((client_given c past n place m K.0.hears to at).given (sent_of past) ∙ (ap (λ (ms : List Message). message_at ms place) K.0.hears.told ∙ at))) in
    let its : IsTheLast n x g.act a.message.head a.its.call = is_the_last s c past n g.act a.message.head K r a.to a.its in
    row_answers n c.clock place x g.act m a.code (subst (λ (q : Message). IsFileReply q.carried) same a.is) (subst (λ (q : Message). code_told q.carried ≡ Some a.code) same a.told) (each_at (λ q. IsFirm q.head q.carried) c.sent place m at h.0.0.0.0.0.0.0.1) to r
    (subst (λ (q : Message). is_awaited x g.act q.head ≡ true) same its.awaited) (id, ap volume_changed (sym its.call') ∙ ch)

-- ---- every step

ungiven_takes : (s : Script) (n : ℕ) (past : List Entry) (ls : List Line) (sent : List Message) → has_given ls ≡ false → TakesReply s (actors.Node (Client n)) past ls sent
ungiven_takes s n past ls sent none g id ch = let no_ : None ≡ Some g.heard.message = sym (none_given ls (sent_of past) none) ∙ g.heard.given in absurd cc

abbrev TakesStep : Script → Cell → List Entry → Moved → Type 0
TakesStep s c past m = TakesReply s m.entry.actor past m.entry.lines m.entry.sent

takes_moves : (s : Script) → EachMove (TakingFacts s) (TakesStep s)
takes_moves s = record {
  void = λ c past h. tt;
  ticked = λ c past n h. tt;
  begun = λ c past n act h r z0. ungiven_takes s n past (begin_row (Client n) (c.clients n) c.clock act).lines (begin_row (Client n) (c.clients n) c.clock act).sent (begun_ungiven (Client n) (c.clients n) c.clock act);
  told = λ c past n place m h at to un. told_takes s c past n place m h at to;
  sought = λ c past n place m k h at to z e. (λ g id ch. absurd (seek_hears s c past n k _ h z g));
  missed = λ c past n k h r z. ungiven_takes s n past (seek_timeout_row (Client n) (c.clients n) k).lines (seek_timeout_row (Client n) (c.clients n) k).sent (missed_ungiven (Client n) (c.clients n) k);
  loc = λ c past l ls ms h st. tt;
  waited = λ c past n act h r. ungiven_takes s n past (timeout_row (Client n) (c.clients n) act).lines (timeout_row (Client n) (c.clients n) act).sent (waited_ungiven (Client n) (c.clients n) act);
  fallen = λ c past n h. ungiven_takes s n past (lines.Crash (Client n) ∷ []) [] refl;
  risen = λ c past n h. ungiven_takes s n past (lines.Restart (Client n) (c.clients n).epoch ∷ []) [] refl;
  served = λ c past i place m armed h up at to. tt;
  cut = λ c past i place m t h up at to. tt;
  stopped = λ c past i h up. tt;
  stop_set = λ c past i calls pick armed h up. tt;
  fail_set = λ c past i call armed h up. tt;
  timed = λ c past i n b armed h up at. tt;
  woken = λ c past i armed h up. tt;
  started = λ c past i after fall h down. tt;
  early = λ c past i fall h down. tt;
  midway = λ c past i after fall h down. tt;
  full = λ c past i after fall h down. tt;
}

pub run_takes : (s : Script) (history : List Entry) (end : Cell) → RunsTo history s end → EachEntry (λ past e. TakesReply s e.actor past e.lines e.sent) (set_up_entry s ∷ []) history
run_takes s h end r =
    run_each (TakingFacts s) (λ past e. TakesReply s e.actor past e.lines e.sent) (λ c past x so k. (unanswered_kept s c past x so k.0, homes_kept s c past x so k.1)) (λ c past x so k. each_moved (TakingFacts s) (TakesStep s) (takes_moves s) c past x so k) r.inputs s (set_up_entry s ∷ []) h end (unanswered_first s, homes_first s) r.leads
