use Rattle.spec_model.specs.Calls.{same_key, key_of}
use Rattle.law_legal.specs.Laws.{PairsAreKnown}
use Rattle.spec_history.specs.declared.acts.Operand.{Operand}
use Rattle.afs_num.specs.declared.types.Code.{Code}
use Rattle.law_legal.proofs.DatabaseLines.{is_of_loc, all_of_loc}
use Rattle.law_legal.specs.LocLaws.{IsToldIn, LocTellsTheScript, SeeksAreAsked, IsLookupNumber, TellsLookup}
use Rattle.spec_history.specs.declared.lines.Line.{Line}
use Rattle.spec_history.specs.declared.lines.Line.TheVariants as lines
use Rattle.spec_history.specs.declared.scripts.Script.{Script}
use Rattle.law_legal.proofs.ActLines.{Acts, Asks, IsTheCall, Rests, Stops, last_key, who_at, SeeksOn, IfSeek, OfSeek, IsTheSeek, IsOwnSeek}
use Rattle.law_legal.proofs.ActSteps.{begins_acts, falls_acts, given_acts, rises_acts, waits_acts, by_quiet, sought_quiet}
use Rattle.spec_history.specs.declared.acts.Operand.TheVariants as operands
use Rattle.law_legal.specs.Past as questions
use Rattle.spec_model.specs.CellRows as cell_rows
use Rattle.law_legal.specs.Past.{AskedSince, answered_key, is_by_key, has_called}
use Rattle.spec_history.specs.declared.acts.Act.{Act}
use Rattle.spec_history.specs.declared.acts.Act.TheVariants as acts
use Rattle.afs_num.specs.declared.histories.ReadBody.{ReadBody}
use Rattle.afs_num.specs.declared.location_calls.LocCall.{LocCall}
use Rattle.law_legal.proofs.ActSteps.{IsPlaced, missed_acts, sought_acts}
use Rattle.law_legal.proofs.ClientCalls.{placed}
use Rattle.law_legal.proofs.ServerRefusesForGood.{IsSentBy}
use Rattle.law_legal.proofs.DatabaseKeeps.{IsLocStep, Lists, IsNumberedCall, first_lists, no_server_loc}
use Rattle.law_legal.proofs.DatabaseDoes.{IsOfLoc, IsBackTo, IsUnderKey}
use Rattle.law_legal.proofs.ServerPosts.{rises_posts, served_posts, times_posts, wakes_posts}
use Rattle.spec_rows.specs.ClientRow.{is_answer, act_by, act_of, act_sought, is_sought, question, sought_by, sought_ends, seeks_again, with_given, ignores}
use Rattle.spec_rows.specs.Going.{Seek, homes_of, with_read}
use Rattle.spec_rows.specs.Runs.{message_at}
use Rattle.spec_rows.specs.LocSteps.{LocHost}
use Rattle.law_legal.proofs.RunSteps.{loc_becomes}
use Rattle.spec_rows.specs.ServerRow.{is_client}
use Rattle.law_legal.proofs.ClientSent.{call_is, under_last, late_by, uncalled_late}
use Rattle.law_legal.proofs.OwedPasses.{all_lines, timeout_onto}
use Rattle.law_legal.proofs.BaseLaws.{ByClient, Each, IfCall, OfCall, UpTo, at_put, both, by_client, each_at, each_map, each_more, if_call, a_key, next_not, same_key-refl, same_key-true, same_node-true, some_of}
use Rattle.spec_rows.specs.ServerRow.{is_client}
use Rattle.law_legal.proofs.ClientCalls.{IsUncalled, uncalled_any}
use Rattle.spec_ideal.specs.Tables.{Table}
use Rattle.law_legal.proofs.ServerChooses.{IfCut, Works, one_from, risen_from, risen_lines, serves_works, starts_works, disk_works, times_works, wakes_works}
use Rattle.law_legal.proofs.BaseWords.{IsOne, Origin}
use Rattle.law_legal.proofs.CallKeysOnce.{IsKnown, any_told, by_key, pairs_known}
use Rattle.law_legal.proofs.RunsKnown.{Known, known_first, known_kept, served_uncalled, started_uncalled, timed_uncalled, woken_uncalled}
use Rattle.law_legal.proofs.RunSetUp.{first_passed}
use Rattle.law_legal.proofs.ActNeeds.{unlocated}
use Rattle.law_legal.proofs.RunWalk.{Behind, EachMove, IsKept, each_moved, run_keeps}
use Rattle.law_legal.proofs.ServerSeats.{AreSeated}
use Rattle.law_legal.specs.Breaks.{HasTimeout}
use Rattle.law_legal.specs.Ideal.{call_under, set_up_entry, user_of}
use Rattle.law_legal.specs.Legal.{as_asked}
use Rattle.law_legal.specs.Once.{past_of}
use Rattle.spec_records.specs.Durable.{Stored}
use Rattle.law_legal.specs.Parts.{ActsAreTold, CallsAreAsked, IsAsked}
use Rattle.law_legal.specs.Past.{CalledSince, Sends, called_key, has_begun, is_new_to_act, lines_of, onto, running, sent_of}
use Rattle.afs_num.specs.Nodes.{same_node}
use Rattle.afs_num.specs.declared.calls.FsCall.{FsCall}
use Rattle.afs_num.specs.declared.histories.Actor.TheVariants as actors
use Rattle.afs_num.specs.declared.messages.Call.TheVariants as ask
use Rattle.afs_num.specs.declared.messages.Carried.{Carried}
use Rattle.afs_num.specs.declared.messages.Carried.TheVariants as carried
use Rattle.afs_num.specs.declared.messages.Message.{Message}
use Rattle.afs_num.specs.declared.messages.Received.TheVariants.{Whole}
use Rattle.afs_num.specs.declared.types.Fid.{Fid}
use Rattle.afs_num.specs.declared.types.Head.{Head}
use Rattle.afs_num.specs.declared.types.Key.{Key}
use Rattle.afs_num.specs.declared.types.Node.{Node}
use Rattle.afs_num.specs.declared.types.Node.TheVariants.{Client, Loc, Server}
use Rattle.spec_rows.specs.Callbacks.{put}
use Rattle.spec_rows.specs.ClientRow.{call_by, call_message, call_of}
use Rattle.spec_rows.specs.Going.{ClientState, Going, began, next, read_on}
use Rattle.law_legal.proofs.RunSteps.{blow_line, server_moves, loc_becomes}
use Rattle.spec_rows.specs.Runs.{Armed, Cell, Entry, Fall, at_rest, in_boot, in_step, RunsTo, begun_by_disk, locations, start, unarmed, user_at}
use Rattle.spec_rows.specs.ServerRow.{versions_made}
use Rattle.spec_rows.specs.ServerSteps.{back_timeout_row, server_row, start_row, wake_row}
use Rattle.spec_rows.specs.States.{Gift, ServerState}
use Rattle.spec_rows.specs.Steps.{Step}
use Rattle.std.proofs.Common.{◌≡◌, ℕ, ◌+◌, ◌⊎◌, inl, inr, Bool, true, false, cond, List, [], ◌∷◌, ◌++◌, Option, Some, None, refl, sym, ap, subst, ◌∙◌, ◌≤◌, eqb-true, eq-eqb, arith, nat_eq}
use Rattle.std.specs.Prelude.{⊤, ◌&&◌, not}
use Rattle.law_legal.proofs.ActFollows.{none_runs}
use Rattle.law_legal.proofs.KeptPasses.{late_kept}
use Rattle.law_legal.proofs.ActCalls.{Asked, AskedIn, IsBehindLast, IsNext, IsNoSeek, IsSeeking, IsToldByLoc, IsUpToLast, all_idle, call_up, handed_same, idle_asked, idle_both, idle_versions, if_seek, is_idle, later_pair, no_seeks, not_it, of_client, origin_over, other_leaves, sends_each, under_more, unsent, up_to_own}

-- ---- a step of a client

-- what it sends is its call
pub the_calls : (n : ℕ) (x : ClientState) (st : Step ClientState) → Rests n (who_at x) x.gifts st ⊎ (Asks n (who_at x) st ⊎ Stops n (who_at x) st) → Each (IfCall (IsTheCall n st.state)) st.sent
the_calls n x st (inl r) = r.sent
the_calls n x st (inr (inl a)) = subst (Each (IfCall (IsTheCall n st.state))) (sym a.sent) (record { key = refl; act = a.act; runs = a.runs; user' = refl; asks = refl; to = refl; opcode = refl }, tt)
the_calls n x st (inr (inr z)) = each_map IsUncalled (IfCall (IsTheCall n st.state)) (uncalled_any (IsTheCall n st.state)) st.sent z.sent

pub same_key_at : (n : ℕ) (x y : ClientState) → y.epoch ≡ x.epoch → y.last ≡ x.last → last_key n y ≡ last_key n x
same_key_at n x y e l = ap (λ (a : ℕ). a_key (Client n) a y.last) e ∙ ap (λ (b : ℕ). a_key (Client n) x.epoch b) l

same_call : (x y : ClientState) (act : Going) → y.gifts ≡ x.gifts → call_of y act ≡ call_of x act
same_call x y act g = ap (λ (gs : List Gift). call_by gs (next act)) g

pub next_key : (n : ℕ) (clients : ℕ → ClientState) (st : Step ClientState) → Asks n (who_at (clients n)) st → IsNext n clients (last_key n st.state)
next_key n clients st a = record { node = refl; epoch = a.epoch; number = a.last }

-- the call that it waits for is the one under its key
last_one : (c : Cell) (past : List Entry) (s : Script) (n : ℕ) (st : Step ClientState) → Known c past → AskedIn s c past → st.state.user ≡ (c.clients n).user → Rests n (who_at (c.clients n)) (c.clients n).gifts st ⊎ (Asks n (who_at (c.clients n)) st ⊎ Stops n (who_at (c.clients n)) st) → (act : Going) → st.state.running ≡ Some act
    → call_under (last_key n st.state) (c.sent ++ st.sent) ≡ Some (st.state.user, call_of st.state act)
last_one c past s n st K A who (inl r) act run = elim r.act [
  | inl none ↦ absurd (none_runs st.state.running act none run)
  | inr same ↦ ap (λ (k : Key). call_under k (c.sent ++ st.sent)) (same_key_at n (c.clients n) st.state r.epoch r.last)
      ∙ (under_more (last_key n (c.clients n)) c.sent st.sent _ (A.last n act (sym same.0 ∙ run))
      ∙ (ap (λ (u : List ℕ). Some (u, call_of (c.clients n) act)) (sym who) ∙ ap (λ (f : FsCall). Some (st.state.user, f)) (sym (same_call (c.clients n) st.state act same.1.0))))
]
last_one c past s n st K A who (inr (inl a)) act run =
    ap (λ (ms : List Message). call_under (last_key n st.state) (c.sent ++ ms)) a.sent
    ∙ (under_last (last_key n st.state) c.sent (call_message (Client n) st.state a.act) (st.state.user, call_of st.state a.act) (unsent K.keys.callees c.clients n (last_key n st.state) c.sent (next_key n c.clients st a) K.keys.calls).1 (same_key-refl (last_key n st.state)) refl
    ∙ ap (λ (g : Going). Some (st.state.user, call_of st.state g)) (some_of a.act act (sym a.runs ∙ run)))
last_one c past s n st K A who (inr (inr z)) act run = absurd (none_runs st.state.running act z.act run)

-- no call has the next key yet
not_that : (clients : ℕ → ClientState) (n : ℕ) (k : Key) (head : Head) (t : Bool) → same_key (called_key head) k ≡ t → IsNext n clients k → ((j : ℕ) → head.from ≡ Client j → UpTo head.epoch head.number (clients j).epoch (clients j).last) → t ≡ false
not_that clients n k head false e x h = refl
not_that clients n k head true e x h =
    let same : called_key head ≡ k = same_key-true (called_key head) k e in
    absurd (next_not head.epoch head.number (clients n).epoch (clients n).last (h n (ap (λ (y : Key). y.node) same ∙ x.node)) (ap (λ (y : Key). y.epoch) same ∙ x.epoch) (ap (λ (y : Key). y.number) same ∙ x.number))

one_uncalled : (callees : Key → Node) (clients : ℕ → ClientState) (n : ℕ) (k : Key) (head : Head) (c : Carried) → IsNext n clients k → OfCall (ByClient (λ h user call. IsKnown callees clients h.to (key_of h))) head c → OfSeek (IsUpToLast clients) head c → is_by_key k head c ≡ false
one_uncalled callees clients n k head (carried.Call user (ask.File call)) x h q = not_it callees clients n k head (same_key (called_key head) k) refl x h
one_uncalled callees clients n k head (carried.Call user (ask.Volume call)) x h q = absurd h
one_uncalled callees clients n k head (carried.Call user (ask.Location call)) x h q = not_that clients n k head (same_key (called_key head) k) refl x q
one_uncalled callees clients n k head (carried.Refusal code) x h q = refl
one_uncalled callees clients n k head (carried.Reply reply) x h q = refl
one_uncalled callees clients n k head carried.Notice x h q = refl

uncalled : (callees : Key → Node) (clients : ℕ → ClientState) (n : ℕ) (k : Key) (sent : List Message) → IsNext n clients k → Each (IfCall (λ h user call. IsKnown callees clients h.to (key_of h))) sent → Each (IfSeek (IsUpToLast clients)) sent → has_called k sent ≡ false
uncalled callees clients n k [] x h q = refl
uncalled callees clients n k (m ∷ sent) x h q = rw (one_uncalled callees clients n k m.head m.carried x h.0 q.0, uncalled callees clients n k sent x h.1 q.1) refl

pub next_uncalled : (s : Script) (c : Cell) (past : List Entry) (n : ℕ) (k : Key) → Known c past → AskedIn s c past → IsNext n c.clients k → has_called k (sent_of past) ≡ false
next_uncalled s c past n k K A x = subst (λ (ms : List Message). has_called k ms ≡ false) (sym K.hears.told) (uncalled K.keys.callees c.clients n k c.sent x K.keys.calls A.upto)

-- it was sent since its act began
last_asked : (c : Cell) (past : List Entry) (s : Script) (n : ℕ) (st : Step ClientState) → AskedIn s c past → st.state.user ≡ (c.clients n).user → Rests n (who_at (c.clients n)) (c.clients n).gifts st ⊎ (Asks n (who_at (c.clients n)) st ⊎ Stops n (who_at (c.clients n)) st) → (act : Going) → st.state.running ≡ Some act
    → CalledSince (last_key n st.state) (user_at s n) (call_of st.state act) (of_client n st ∷ past)
last_asked c past s n st A who (inl r) act run = elim r.act [
  | inl none ↦ absurd (none_runs st.state.running act none run)
  | inr same ↦ inr (same.1.1, subst (λ (k : Key). CalledSince k (user_at s n) (call_of st.state act) past) (sym (same_key_at n (c.clients n) st.state r.epoch r.last)) (subst (λ (f : FsCall). CalledSince (last_key n (c.clients n)) (user_at s n) f past) (sym (same_call (c.clients n) st.state act same.1.0)) (A.asked n act (sym same.0 ∙ run))))
]
last_asked c past s n st A who (inr (inl a)) act run =
    let m : Message = call_message (Client n) st.state a.act in
    let sends : Sends (last_key n st.state) (user_at s n) (call_of st.state act) (m ∷ []) = inl (refl, ap (λ (u : List ℕ). carried.Call u (ask.File (call_of st.state a.act))) (who ∙ A.user n) ∙ ap (λ (g : Going). carried.Call (user_at s n) (ask.File (call_of st.state g))) (some_of a.act act (sym a.runs ∙ run))) in
    inl (refl, subst (Sends (last_key n st.state) (user_at s n) (call_of st.state act)) (sym a.sent) sends)
last_asked c past s n st A who (inr (inr z)) act run = absurd (none_runs st.state.running act z.act run)

pub last_late : (c : Cell) (past : List Entry) (s : Script) (n : ℕ) (st : Step ClientState) → Known c past → AskedIn s c past → Rests n (who_at (c.clients n)) (c.clients n).gifts st ⊎ (Asks n (who_at (c.clients n)) st ⊎ Stops n (who_at (c.clients n)) st) → (act : Going) → st.state.running ≡ Some act
    → is_new_to_act (Client n) (last_key n st.state) (of_client n st ∷ past) ≡ true
last_late c past s n st K A (inl r) act run = elim r.act [
  | inl none ↦ absurd (none_runs st.state.running act none run)
  | inr same ↦ late_kept (has_begun (Client n) st.lines) _ _ same.1.1 (subst (λ (k : Key). is_new_to_act (Client n) k past ≡ true) (sym (same_key_at n (c.clients n) st.state r.epoch r.last)) (A.late n act (sym same.0 ∙ run)))
]
last_late c past s n st K A (inr (inl a)) act run =
    let no : has_called (last_key n st.state) (sent_of past) ≡ false = next_uncalled s c past n (last_key n st.state) K A (next_key n c.clients st a) in
    late_by (has_begun (Client n) st.lines) (has_called (last_key n st.state) (sent_of past)) (is_new_to_act (Client n) (last_key n st.state) past) no (uncalled_late (Client n) (last_key n st.state) past no)
last_late c past s n st K A (inr (inr z)) act run = absurd (none_runs st.state.running act z.act run)

-- and so what it asks the location database
pub late_sought : (c : Cell) (past : List Entry) (s : Script) (n : ℕ) (st : Step ClientState) → Known c past → AskedIn s c past → Acts n (who_at (c.clients n)) (c.clients n).gifts st → (k : Seek) → st.state.seeking ≡ Some k → is_new_to_act (Client n) (last_key n st.state) (of_client n st ∷ past) ≡ true
late_sought c past s n st K A a k z = elim (a.seeks k z) [
  | inl o ↦ late_kept (has_begun (Client n) st.lines) _ _ o.begins (subst (λ (q : Key). is_new_to_act (Client n) q past ≡ true) (sym (same_key_at n (c.clients n) st.state o.epoch o.last)) (A.late_seek n k o.before))
  | inr w ↦
      (let no_ : has_called (last_key n st.state) (sent_of past) ≡ false = next_uncalled s c past n (last_key n st.state) K A (record { node = refl; epoch = w.above.0; number = w.above.1 }) in
      late_by (has_begun (Client n) st.lines) (has_called (last_key n st.state) (sent_of past)) (is_new_to_act (Client n) (last_key n st.state) past) no_ (uncalled_late (Client n) (last_key n st.state) past no_))
]

-- a call that is sent now is that of the act which runs
new_origin : (s : Script) (n : ℕ) (st : Step ClientState) (past : List Entry) → st.state.user ≡ user_at s n → running s (Client n) (lines_of (of_client n st ∷ past)) ≡ act_of st.state → (head : Head) (user : List ℕ) (call : FsCall) → IsTheCall n st.state head user call × Sends (called_key head) user call st.sent
    → Origin s (of_client n st ∷ past) head user call
new_origin s n st past who runs head user call x =
    let from : head.from ≡ Client n = ap (λ (k : Key). k.node) x.0.key in
    record {
      act = x.0.act;
      called = inl (ap actors.Node (sym from), (x.1, subst (λ (q : Node). running s q (lines_of (of_client n st ∷ past)) ≡ Some x.0.act) (sym from) (runs ∙ ap (λ (o : Option Going). act_by o st.state.seeking) x.0.runs)));
      own_user = x.0.user' ∙ (who ∙ ap (user_of s) (sym from));
      own_call = ap as_asked x.0.asks ∙ call_is st.state x.0.act;
    }

new_one : (n : ℕ) (st : Step ClientState) (sent : List Message) → ((act : Going) → st.state.running ≡ Some act → call_under (last_key n st.state) sent ≡ Some (st.state.user, call_of st.state act)) → (head : Head) (user : List ℕ) (call : FsCall) → IsTheCall n st.state head user call → IsOne sent head user call
new_one n st sent w head user call x =
    ap (λ (k : Key). call_under k sent) x.key ∙ (w x.act x.runs ∙ (ap (λ (u : List ℕ). Some (u, call_of st.state x.act)) (sym x.user') ∙ ap (λ (f : FsCall). Some (user, f)) (sym x.asks)))

pub no_client_loc : (head : Head) (n : ℕ) → head.from ≡ Loc → head.from ≡ Client n → ⊥
no_client_loc head n e f = let no_ : Loc ≡ Client n = sym e ∙ f in absurd cc

abbrev QuestionIn : Key → List ℕ → LocCall → List Message → Type 0
QuestionIn k user q ms = questions.WasAskedOfLoc k user q ms

tried_by : (t : Bool) (n : ℕ) (c : ClientState) (i : ℕ) (ls : List Line) → nat_eq i (c.tries + 1) ≡ t → i ≤ c.tries + 1 → HasTimeout (Client n) Loc c.epoch c.last (c.tries + 1) ls → (i ≤ c.tries → HasTimeout (Client n) Loc c.epoch c.last i ls) → HasTimeout (Client n) Loc c.epoch c.last i ls
tried_by true n c i ls e b now old = subst (λ (m : ℕ). HasTimeout (Client n) Loc c.epoch c.last m ls) (sym (eqb-true i (c.tries + 1) e)) now
tried_by false n c i ls e b now old = old (let ne : i ≡ c.tries + 1 → ⊥ = λ z. (let yes : nat_eq i (c.tries + 1) ≡ true = eq-eqb i (c.tries + 1) z in absurd cc) in omega arith)

-- so often as it asked again it was timed out
seek_tried : (n : ℕ) (c : ClientState) (st : Step ClientState) (past : List Entry) (k : Seek) → SeeksOn n (who_at c) k st → c.callee ≡ Loc → ((i : ℕ) → 1 ≤ i → i ≤ c.tries → HasTimeout (Client n) Loc c.epoch c.last i (lines_of past)) → (i : ℕ) → 1 ≤ i → i ≤ st.state.tries → HasTimeout (Client n) Loc st.state.epoch st.state.last i (onto (lines_of past) st.lines)
seek_tried n c st past k o loc h i a b =
    let all : List Line = onto (lines_of past) st.lines in
    let old : i ≤ c.tries → HasTimeout (Client n) Loc c.epoch c.last i all = λ le. timeout_onto (Client n) Loc c.epoch c.last i st.lines (lines_of past) (h i a le) in
    let now : HasTimeout (Client n) Loc c.epoch c.last i all = elim o.tries [
      | inl same ↦ old (subst (λ (m : ℕ). i ≤ m) same b)
      | inr more ↦ tried_by (nat_eq i (c.tries + 1)) n c i all refl (subst (λ (m : ℕ). i ≤ m) more.0 b) (subst (λ (q : Node). HasTimeout (Client n) q c.epoch c.last (c.tries + 1) all) loc (more.1 (lines_of past))) old
    ] in
    subst (λ (e : ℕ). HasTimeout (Client n) Loc e st.state.last i all) (sym o.epoch) (subst (λ (l : ℕ). HasTimeout (Client n) Loc c.epoch l i all) (sym o.last) now)

step_seeks : (s : Script) (c : Cell) (past : List Entry) (n : ℕ) (st : Step ClientState) → AskedIn s c past → Acts n (who_at (c.clients n)) (c.clients n).gifts st → (k : Seek) → st.state.seeking ≡ Some k → IsSeeking s n st.state k (of_client n st ∷ past)
step_seeks s c past n st A a k z = elim (a.seeks k z) [
  | inl o ↦ let q : IsSeeking s n (c.clients n) k past = A.seeks n k o.before in record {
    idle = o.running ∙ q.idle;
    callee = o.callee ∙ q.callee;
    tried = seek_tried n (c.clients n) st past k o q.callee q.tried;
    gone = q.gone;
    its = q.its;
    needs = q.needs;
    asks = q.asks;
    asked = inr (o.begins, subst (λ (y : Key). AskedSince y (user_at s n) (question k.operand) past) (sym (same_key_at n (c.clients n) st.state o.epoch o.last)) q.asked);
  }
  | inr w ↦ record {
    idle = w.running;
    callee = w.callee;
    tried = λ i a b. (let le : i ≤ 0 = subst (λ (m : ℕ). i ≤ m) w.tries b in absurd (omega arith));
    gone = w.gone;
    its = w.its;
    needs = w.needs;
    asks = w.asks;
    asked = inl (refl, subst (QuestionIn (last_key n st.state) (user_at s n) (question k.operand)) (sym w.sent) (inl (refl, ap (λ (u : List ℕ). carried.Call u (ask.Location (question k.operand))) (a.user ∙ A.user n))));
  }
]

pub client_asked : (s : Script) (c : Cell) (past : List Entry) (n : ℕ) (st : Step ClientState) → Known c past → AskedIn s c past → Acts n (who_at (c.clients n)) (c.clients n).gifts st → Asked s c.handed c.loc (put n st.state c.clients) (c.sent ++ st.sent) (of_client n st ∷ past)
client_asked s c past n st K A a =
    let e : Entry = of_client n st in
    let more : List Message = c.sent ++ st.sent in
    let runs : running s (Client n) (lines_of (e ∷ past)) ≡ act_of st.state = a.runs s (A.table n) (lines_of past) (A.acts n) in
    let calls : Each (IfCall (IsTheCall n st.state)) st.sent = the_calls n (c.clients n) st a.goes in
    let last : (act : Going) → st.state.running ≡ Some act → call_under (last_key n st.state) more ≡ Some (st.state.user, call_of st.state act) = last_one c past s n st K A a.user a.goes in
    record {
      handed_is = A.handed_is;
      user = λ j. at_put n j (λ (x : ClientState). x.user ≡ user_at s j) st.state c.clients (λ same. subst (λ (i : ℕ). st.state.user ≡ user_at s i) same (a.user ∙ A.user n)) (λ other. A.user j);
      table = λ j. at_put n j (λ (x : ClientState). x.table ≡ locations s) st.state c.clients (λ same. a.table ∙ A.table n) (λ other. A.table j);
      acts = λ j. at_put n j (λ (x : ClientState). running s (Client j) (lines_of (e ∷ past)) ≡ act_of x) st.state c.clients (λ same. subst (λ (i : ℕ). running s (Client i) (lines_of (e ∷ past)) ≡ act_of st.state) same runs) (λ other. (other_leaves s n j st.lines (lines_of past) a.of other).runs ∙ A.acts j);
      seeks = λ j. at_put n j (λ (x : ClientState). (k : Seek) → x.seeking ≡ Some k → IsSeeking s j x k (e ∷ past)) st.state c.clients
          (λ same. subst (λ (i : ℕ). (k : Seek) → st.state.seeking ≡ Some k → IsSeeking s i st.state k (e ∷ past)) same (step_seeks s c past n st A a))
          (λ other k z. let q : IsSeeking s j (c.clients j) k past = A.seeks j k z in record { idle = q.idle; callee = q.callee; tried = λ i a b. timeout_onto (Client j) Loc (c.clients j).epoch (c.clients j).last i st.lines (lines_of past) (q.tried i a b); gone = q.gone; its = q.its; needs = q.needs; asks = q.asks; asked = inr ((other_leaves s n j st.lines (lines_of past) a.of other).begins, q.asked) });
      lists = A.lists;
      told = each_more (IsToldByLoc s) c.sent st.sent A.told (each_map (IsSentBy (Client n)) (IsToldByLoc s) (λ m f z. absurd (no_client_loc m.head n z f.from)) st.sent a.from);
      ones = each_more (IfCall (IsOne more)) c.sent st.sent (each_map _ _ (if_call (IsOne c.sent) (IsOne more) (λ h user call x. under_more (called_key h) c.sent st.sent (user, call) x)) c.sent A.ones) (each_map _ _ (if_call (IsTheCall n st.state) (IsOne more) (new_one n st more last)) st.sent calls);
      last = λ j. at_put n j (λ (x : ClientState). (act : Going) → x.running ≡ Some act → call_under (last_key j x) more ≡ Some (x.user, call_of x act)) st.state c.clients
          (λ same. subst (λ (i : ℕ). (act : Going) → st.state.running ≡ Some act → call_under (last_key i st.state) more ≡ Some (st.state.user, call_of st.state act)) same last)
          (λ other act r. under_more (last_key j (c.clients j)) c.sent st.sent _ (A.last j act r));
      origins = each_more (IfCall (Origin s (e ∷ past))) c.sent st.sent (each_map _ _ (if_call (Origin s past) (Origin s (e ∷ past)) (origin_over s e past)) c.sent A.origins)
          (each_map _ _ (if_call (λ h user call. IsTheCall n st.state h user call × Sends (called_key h) user call st.sent) (Origin s (e ∷ past)) (new_origin s n st past (a.user ∙ A.user n) runs)) st.sent (sends_each (IsTheCall n st.state) st.sent calls));
      asked = λ j. at_put n j (λ (x : ClientState). (act : Going) → x.running ≡ Some act → CalledSince (last_key j x) (user_at s j) (call_of x act) (e ∷ past)) st.state c.clients
          (λ same. subst (λ (i : ℕ). (act : Going) → st.state.running ≡ Some act → CalledSince (last_key i st.state) (user_at s i) (call_of st.state act) (e ∷ past)) same (last_asked c past s n st A a.user a.goes))
          (λ other act r. inr ((other_leaves s n j st.lines (lines_of past) a.of other).begins, A.asked j act r));
      late = λ j. at_put n j (λ (x : ClientState). (act : Going) → x.running ≡ Some act → is_new_to_act (Client j) (last_key j x) (e ∷ past) ≡ true) st.state c.clients
          (λ same. subst (λ (i : ℕ). (act : Going) → st.state.running ≡ Some act → is_new_to_act (Client i) (last_key i st.state) (e ∷ past) ≡ true) same (last_late c past s n st K A a.goes))
          (λ other act r. late_kept (has_begun (Client j) st.lines) _ _ (other_leaves s n j st.lines (lines_of past) a.of other).begins (A.late j act r));
      behind = each_more (IsBehindLast (put n st.state c.clients)) c.sent st.sent
          (each_map (IsBehindLast c.clients) (IsBehindLast (put n st.state c.clients)) (λ m x from j to. at_put n j (λ (z : ClientState). UpTo m.head.epoch m.head.number z.epoch z.last) st.state c.clients
          (λ same. later_pair n (c.clients n) st a m.head.epoch m.head.number (x from n (to ∙ ap Client (sym same)))) (λ other. x from j to)) c.sent A.behind)
          (each_map (IsSentBy (Client n)) (IsBehindLast (put n st.state c.clients)) (λ m f z. absurd (no_client_loc m.head n z f.from)) st.sent a.from);
      numbers = each_more (IfCall IsNumberedCall) c.sent st.sent A.numbers (each_map (IfCall (IsTheCall n st.state)) (IfCall IsNumberedCall) (if_call (IsTheCall n st.state) IsNumberedCall (λ head user call x. x.opcode)) st.sent calls);
      upto = each_more (IfSeek (IsUpToLast (put n st.state c.clients))) c.sent st.sent
          (each_map (IfSeek (IsUpToLast c.clients)) (IfSeek (IsUpToLast (put n st.state c.clients))) (if_seek (IsUpToLast c.clients) (IsUpToLast (put n st.state c.clients)) (λ head user call x j from. at_put n j (λ (z : ClientState). UpTo head.epoch head.number z.epoch z.last) st.state c.clients
          (λ same. later_pair n (c.clients n) st a head.epoch head.number (x n (from ∙ ap Client (sym same)))) (λ other. x j from))) c.sent A.upto)
          (each_map (IsOwnSeek n st.state) (IfSeek (IsUpToLast (put n st.state c.clients))) (if_seek (IsTheSeek n st.state) (IsUpToLast (put n st.state c.clients)) (up_to_own n st.state c.clients)) st.sent a.keys);
      late_seek = λ j. at_put n j (λ (x : ClientState). (k : Seek) → x.seeking ≡ Some k → is_new_to_act (Client j) (last_key j x) (e ∷ past) ≡ true) st.state c.clients
          (λ same. subst (λ (i : ℕ). (k : Seek) → st.state.seeking ≡ Some k → is_new_to_act (Client i) (last_key i st.state) (e ∷ past) ≡ true) same (late_sought c past s n st K A a))
          (λ other k r. late_kept (has_begun (Client j) st.lines) _ _ (other_leaves s n j st.lines (lines_of past) a.of other).begins (A.late_seek j k r));
      seats = λ j. at_put n j (λ (x : ClientState). AreSeated (Client j) x.seats) st.state c.clients (λ same. subst (λ (i : ℕ). AreSeated (Client i) st.state.seats) same (a.seats (A.seats n))) (λ other. A.seats j);
    }

-- ---- every step

pub idle_works : (P : Message → List Line → List Line → Type 0) (i : ℕ) (x : ServerState) (b : Table Stored) (ls : List Line) → Works P (Server i) x b ls → all_lines is_idle ls ≡ true
idle_works P i x b ls (inl h) = all_idle i ls h.lines
idle_works P i x b ls (inr h) = subst (λ (l : List Line). all_lines is_idle l ≡ true) (sym h.split) (idle_both h.front _ (all_idle i h.front h.before) (idle_versions (versions_made h.change) h.rest (all_idle i h.rest h.behind)))

-- of any message, whatever stands before and behind
abbrev pub any_message : Message → List Line → List Line → Type 0
any_message m front rest = ⊤

pub any_cut : (fall : Fall) → IfCut (λ m. ⊤) fall
any_cut at_rest = tt
any_cut (in_step m clock hit) = tt
any_cut in_boot = tt

pub blow_idle : (i : ℕ) (t : Bool) → all_lines is_idle (blow_line i t ∷ []) ≡ true
blow_idle i true = refl
blow_idle i false = refl

abbrev pub KnownAsked : Script → Cell → List Entry → Type 0
KnownAsked s c past = Known c past × AskedIn s c past

-- a step that sends what is no call of a client, or nothing
moves_asked : (s : Script) (c : Cell) (past : List Entry) (i : ℕ) (armed : Armed) (st : Step ServerState) → AskedIn s c past → all_lines is_idle st.lines ≡ true → Each (IsSentBy (Server i)) st.sent → Each IsUncalled st.sent → Behind (AskedIn s) c past (server_moves c i armed st)
moves_asked s c past i armed st A idle own none = idle_asked s c.handed c.loc c.clients c.sent (c.sent ++ st.sent) past (server_moves c i armed st).entry A (λ P a b. each_more P c.sent st.sent a b) (λ k x e. under_more k c.sent st.sent x e) idle none (no_seeks (Server i) refl st.sent own none) (each_map (IsSentBy (Server i)) (IsToldByLoc s) (λ m f z. absurd (no_server_loc m.head i z f.from)) st.sent own) (each_map (IsSentBy (Server i)) (IsBehindLast c.clients) (λ m f z. absurd (no_server_loc m.head i z f.from)) st.sent own)

still_asked : (s : Script) (c : Cell) (past : List Entry) (e : Entry) → AskedIn s c past → e.sent ≡ [] → all_lines is_idle e.lines ≡ true → Asked s c.handed c.loc c.clients c.sent (e ∷ past)
still_asked s c past e A none idle = idle_asked s c.handed c.loc c.clients c.sent c.sent past e A (λ P a b. a) (λ k x z. z) idle (subst (Each IsUncalled) (sym none) tt) (subst (Each IsNoSeek) (sym none) tt) (subst (Each (IsToldByLoc s)) (sym none) tt) (subst (Each (IsBehindLast c.clients)) (sym none) tt)

-- ---- the location database

of_loc_idle : (l : Line) → is_of_loc l ≡ true → is_idle l ≡ true
of_loc_idle (lines.Crash n) h = ap (λ (q : Node). not (is_client q)) (same_node-true n Loc h)
of_loc_idle (lines.Begin n act) h = absurd cc
of_loc_idle (lines.Read n f index source body) h = absurd cc
of_loc_idle (lines.Answer n code) h = absurd cc
of_loc_idle (lines.Timeout n callee epoch number count) h = absurd cc
of_loc_idle (lines.Drop n f) h = absurd cc
of_loc_idle (lines.DropAll n q) h = absurd cc
of_loc_idle l h = refl

pub loc_idle : (ls : List Line) → all_lines is_of_loc ls ≡ true → all_lines is_idle ls ≡ true
loc_idle ls h = all_of_loc is_idle of_loc_idle ls h

pub given_numbered : (s : Script) (c : Cell) (past : List Entry) (o : Option ℕ) (m : Message) → AskedIn s c past → placed o c.sent ≡ Some m → IfCall IsNumberedCall m
given_numbered s c past None m A at = absurd cc
given_numbered s c past (Some place) m A at = each_at (IfCall IsNumberedCall) c.sent place m at A.numbers

each_placed : (P : Message → Type 0) (o : Option ℕ) (sent : List Message) (k : Message) → placed o sent ≡ Some k → Each P sent → P k
each_placed P None sent k at h = absurd cc
each_placed P (Some place) sent k at h = each_at P sent place k at h

-- it answers a call of the client under that call's pair
loc_backs : (s : Script) (c : Cell) (past : List Entry) (l : LocHost) (ls : List Line) (ms : List Message) (o : Option Message) → KnownAsked s c past → (st : IsLocStep c l ls ms) → placed st.place c.sent ≡ o → Each (IsBehindLast c.clients) ms
loc_backs s c past l ls ms None h st e = subst (Each (IsBehindLast c.clients)) (sym (st.none e)) tt
loc_backs s c past l ls ms (Some k) h st e =
    each_map (λ (m : Message). IsBackTo k.head k.carried m × IsUnderKey k.head m) (IsBehindLast c.clients)
    (λ m x from j to. (let up : UpTo k.head.epoch k.head.number (c.clients j).epoch (c.clients j).last = call_up h.0.keys.callees c.clients j k.head k.carried x.0.1.1 (sym x.0.1.0 ∙ to) (each_placed (IfCall (λ y user call. IsKnown h.0.keys.callees c.clients y.to (key_of y))) st.place c.sent k e h.0.keys.calls) (each_placed (IfSeek (IsUpToLast c.clients)) st.place c.sent k e h.1.upto) in
    subst (λ (a : ℕ). UpTo a m.head.number (c.clients j).epoch (c.clients j).last) (sym x.1.0) (subst (λ (b : ℕ). UpTo k.head.epoch b (c.clients j).epoch (c.clients j).last) (sym x.1.1) up)))
    ms (each_zip (IsBackTo k.head k.carried) (IsUnderKey k.head) ms (st.back k e) (st.keys k e))
  where
    each_zip : (P Q : Message → Type 0) (ms : List Message) → Each P ms → Each Q ms → Each (λ (m : Message). P m × Q m) ms
    each_zip P Q [] a b = tt
    each_zip P Q (m ∷ ms) a b = ((a.0, b.0), each_zip P Q ms a.1 b.1)

loc_asked : (s : Script) (c : Cell) (past : List Entry) (l : LocHost) (ls : List Line) (ms : List Message) → KnownAsked s c past → IsLocStep c l ls ms → Asked s c.handed l c.clients (c.sent ++ ms) ((loc_becomes c l ls ms).entry ∷ past)
loc_asked s c past l ls ms h st =
    let q : Lists s l ms = st.lists s h.1.lists (λ m at. given_numbered s c past st.place m h.1 at) in
    let A : Asked s c.handed c.loc c.clients (c.sent ++ ms) ((loc_becomes c l ls ms).entry ∷ past) = idle_asked s c.handed c.loc c.clients c.sent (c.sent ++ ms) past (loc_becomes c l ls ms).entry h.1 (λ P a b. each_more P c.sent ms a b) (λ k x e. under_more k c.sent ms x e) (loc_idle ls st.lines) (each_map IsOfLoc IsUncalled (λ m x. x.1) ms st.sent) (no_seeks Loc refl ms (each_map IsOfLoc (IsSentBy Loc) (λ m x. x.0) ms st.sent) (each_map IsOfLoc IsUncalled (λ m x. x.1) ms st.sent)) (each_map (TellsLookup s) (IsToldByLoc s) (λ m x z. x) ms q.1) (loc_backs s c past l ls ms (placed st.place c.sent) h st refl) in
    record { handed_is = A.handed_is; user = A.user; table = A.table; acts = A.acts; seeks = A.seeks; lists = q.0; told = A.told; ones = A.ones; last = A.last; origins = A.origins; asked = A.asked; late = A.late; upto = A.upto; numbers = A.numbers; behind = A.behind; late_seek = A.late_seek; seats = A.seats }

-- ---- what an act that waits for it is told

begun_homes : (s : Script) (t : Bool) (act : Act) (o : Option Going) (g : Going) → cond t (Some (began (locations s) act)) o ≡ Some g → (o ≡ Some g → g.homes ≡ homes_of (locations s) g.act) → g.homes ≡ homes_of (locations s) g.act
begun_homes s true act o g e w = subst (λ (x : Going). x.homes ≡ homes_of (locations s) x.act) (some_of (began (locations s) act) g e) refl
begun_homes s false act o g e w = w e

read_homes : (s : Script) (t : Bool) (f : Fid) (body : ReadBody) (o : Option Going) (g : Going) → read_on t f body o ≡ Some g → ((x : Going) → o ≡ Some x → x.homes ≡ homes_of (locations s) x.act) → g.homes ≡ homes_of (locations s) g.act
read_homes s true f body None g e w = absurd cc
read_homes s true f body (Some x) g e w = subst (λ (y : Going). y.homes ≡ homes_of (locations s) y.act) (some_of (with_read f body x) g e) (w x refl)
read_homes s false f body o g e w = w g e

none_homes : (s : Script) (t : Bool) (o : Option Going) (g : Going) → cond t None o ≡ Some g → (o ≡ Some g → g.homes ≡ homes_of (locations s) g.act) → g.homes ≡ homes_of (locations s) g.act
none_homes s true o g e w = absurd cc
none_homes s false o g e w = w e

homes_in : (s : Script) (n : Node) (ls : List Line) (g : Going) → running s n ls ≡ Some g → g.homes ≡ homes_of (locations s) g.act
homes_in s n [] g e = absurd cc
homes_in s n (lines.Begin m act ∷ ls) g e = begun_homes s (same_node m n) act (running s n ls) g e (homes_in s n ls g)
homes_in s n (lines.Read m f index source body ∷ ls) g e = read_homes s (same_node m n) f body (running s n ls) g e (λ x q. homes_in s n ls x q)
homes_in s n (lines.Answer m code ∷ ls) g e = none_homes s (same_node m n) (running s n ls) g e (homes_in s n ls g)
homes_in s n (lines.Crash m ∷ ls) g e = none_homes s (same_node m n) (running s n ls) g e (homes_in s n ls g)
homes_in s n (l ∷ ls) g e = homes_in s n ls g e

pub placed_in : (s : Script) (c : Cell) (past : List Entry) (n : ℕ) (k : Seek) → AskedIn s c past → (c.clients n).seeking ≡ Some k → IsPlaced s (c.clients n) k
placed_in s c past n k A z =
    let q : IsSeeking s n (c.clients n) k past = A.seeks n k z in
    record { table = A.table n; idle = q.idle; seeking = z; unknown = λ none. unlocated (locations s) k.act k.operand (homes_in s (Client n) (lines_of past) k.act (A.acts n ∙ (ap (λ (a : Option Going). act_by a (c.clients n).seeking) q.idle ∙ ap act_sought z))) (q.needs none) }

pub is_from_loc : (me : Node) (c : ClientState) (k : Seek) (head : Head) (x : Carried) → is_sought me c k head x ≡ true → head.from ≡ Loc
is_from_loc me c k head x e = same_node-true head.from Loc (both (same_node head.from Loc) _ (both (is_answer x && same_node head.to me) _ e).1).0

pub sought_opcode : (me : Node) (c : ClientState) (k : Seek) (head : Head) (x : Carried) → is_sought me c k head x ≡ true → head.opcode ≡ cell_rows.call_number (ask.Location (question k.operand))
sought_opcode me c k head x e =
    let a = both (is_answer x && same_node head.to me) _ e in
    let b = both (same_node head.from Loc) _ a.1 in
    let d = both (nat_eq head.epoch c.epoch) _ b.1 in
    let f = both (nat_eq head.number c.last) _ d.1 in
    eqb-true head.opcode (cell_rows.call_number (ask.Location (question k.operand))) f.1

lookup_number : (o : Operand) → IsLookupNumber (cell_rows.call_number (ask.Location (question o)))
lookup_number (operands.Path p) = inr refl
lookup_number (operands.Fid f) = inl refl

-- what it is given is for it, and of a look-up
is_looked_up : (me : Node) (c : ClientState) (k : Seek) (head : Head) (x : Carried) → is_sought me c k head x ≡ true → (head.to ≡ me) × IsLookupNumber head.opcode
is_looked_up me c k head x e =
    let a = both (is_answer x && same_node head.to me) _ e in
    let b = both (same_node head.from Loc) _ a.1 in
    let d = both (nat_eq head.epoch c.epoch) _ b.1 in
    let f = both (nat_eq head.number c.last) _ d.1 in
    (same_node-true head.to me (both (is_answer x) (same_node head.to me) a.0).1, subst IsLookupNumber (sym (eqb-true head.opcode (cell_rows.call_number (ask.Location (question k.operand))) f.1)) (lookup_number k.operand))

-- and under its last key
pub sought_key : (n : ℕ) (c : ClientState) (k : Seek) (head : Head) (x : Carried) → is_sought (Client n) c k head x ≡ true → answered_key head ≡ last_key n c
sought_key n c k head x e =
    let a = both (is_answer x && same_node head.to (Client n)) _ e in
    let b = both (same_node head.from Loc) _ a.1 in
    let d = both (nat_eq head.epoch c.epoch) _ b.1 in
    let f = both (nat_eq head.number c.last) _ d.1 in
    ap (λ (q : Node). a_key q head.epoch head.number) (same_node-true head.to (Client n) (both (is_answer x) (same_node head.to (Client n)) a.0).1)
    ∙ (ap (λ (y : ℕ). a_key (Client n) y head.number) (eqb-true head.epoch c.epoch d.0) ∙ ap (λ (y : ℕ). a_key (Client n) c.epoch y) (eqb-true head.number c.last f.0))

pub told_in : (s : Script) (c : Cell) (past : List Entry) (n place : ℕ) (m : Message) (k : Seek) → AskedIn s c past → message_at c.sent place ≡ Some m → is_sought (Client n) (c.clients n) k m.head m.carried ≡ true → IsToldIn s m.carried
told_in s c past n place m k A at e =
    let q = is_looked_up (Client n) (c.clients n) k m.head m.carried e in
    each_at (IsToldByLoc s) c.sent place m at A.told (is_from_loc (Client n) (c.clients n) k m.head m.carried e) n q.0 q.1

pub sought_acts_in : (s : Script) (c : Cell) (past : List Entry) (n place : ℕ) (m : Message) (k : Seek) → AskedIn s c past → message_at c.sent place ≡ Some m → (c.clients n).seeking ≡ Some k → is_sought (Client n) (c.clients n) k m.head m.carried ≡ true → Acts n (who_at (c.clients n)) (c.clients n).gifts (sought_by (Client n) (c.clients n) c.clock place k m.head m.carried)
sought_acts_in s c past n place m k A at z e = sought_acts s n (c.clients n) c.clock place k m.head m.carried (placed_in s c past n k A z) (told_in s c past n place m k A at e)

-- what comes of the database's answer: the act is answered, or nothing, or it is asked again
pub quietly : (s : Script) (c : Cell) (past : List Entry) (n place : ℕ) (m : Message) (k : Seek) (P : Step ClientState → Type 0) → AskedIn s c past → message_at c.sent place ≡ Some m → (c.clients n).seeking ≡ Some k → is_sought (Client n) (c.clients n) k m.head m.carried ≡ true
    → ((code : Code) → P (sought_ends (Client n) (c.clients n) (with_given place) code)) → P (ignores (c.clients n) place) → P (seeks_again (Client n) (c.clients n) place k m.head.boot) → P (sought_by (Client n) (c.clients n) c.clock place k m.head m.carried)
quietly s c past n place m k P A at z e ends none again =
    by_quiet P n (c.clients n) place k m.head m.carried (sought_by (Client n) (c.clients n) c.clock place k m.head m.carried) (sought_quiet s n (c.clients n) c.clock place k m.head m.carried (placed_in s c past n k A z) (told_in s c past n place m k A at e)) (λ code y has. ends code) none again

-- it is no call
pub sought_answer : (me : Node) (c : ClientState) (k : Seek) (m : Message) → is_sought me c k m.head m.carried ≡ true → is_answer m.carried ≡ true
sought_answer me c k m e = (both (is_answer m.carried) (same_node m.head.to me) (both (is_answer m.carried && same_node m.head.to me) _ e).0).0

asked_moves : (s : Script) → EachMove (KnownAsked s) (Behind (AskedIn s))
asked_moves s = record {
  void = λ c past h. still_asked s c past _ h.1 refl refl;
  ticked = λ c past n h. still_asked s c past _ h.1 refl refl;
  begun = λ c past n act h r z. client_asked s c past n _ h.0 h.1 (begins_acts n (c.clients n) c.clock act r z);
  told = λ c past n place m h at to un. client_asked s c past n _ h.0 h.1 (given_acts (by_key (IsKnown h.0.keys.callees c.clients)) any_told n (c.clients n) c.clock place m (h.0.keys.replies n) (h.1.seats n));
  sought = λ c past n place m k h at to z e. client_asked s c past n _ h.0 h.1 (sought_acts_in s c past n place m k h.1 at z e);
  missed = λ c past n k h r z. client_asked s c past n _ h.0 h.1 (missed_acts n (c.clients n) k r z);
  loc = λ c past l ls ms h st. loc_asked s c past l ls ms h st;
  waited = λ c past n act h r. client_asked s c past n _ h.0 h.1 (waits_acts n (c.clients n) act r);
  fallen = λ c past n h. client_asked s c past n _ h.0 h.1 (falls_acts n c.handed (c.clients n) (handed_same s c past (h.1) n));
  risen = λ c past n h. client_asked s c past n _ h.0 h.1 (rises_acts n (c.clients n));
  served = λ c past i place m armed h up at to. moves_asked s c past i armed (server_row (Server i) (c.hosts i).state c.clock place (Whole m)) h.1 (idle_works any_message i (c.hosts i).state _ _ (serves_works any_message (Server i) (c.hosts i).state c.clock place m (λ rest. tt))) (served_posts (Server i) (c.hosts i).state c.clock place m (h.0.posts.0 i).seats (h.0.posts.1 i)).0 (served_uncalled c past i place m h.0 at);
  cut = λ c past i place m t h up at to. still_asked s c past _ h.1 refl (blow_idle i t.stops);
  stopped = λ c past i h up. still_asked s c past _ h.1 refl refl;
  stop_set = λ c past i calls pick armed h up. still_asked s c past _ h.1 refl refl;
  fail_set = λ c past i call armed h up. still_asked s c past _ h.1 refl refl;
  timed = λ c past i n b armed h up at. moves_asked s c past i armed (back_timeout_row (Server i) (c.hosts i).state c.clock n b) h.1 (idle_works any_message i (c.hosts i).state _ _ (times_works any_message (Server i) (c.hosts i).state c.clock n b)) (times_posts (Server i) (c.hosts i).state c.clock n b (h.0.posts.1 i)).0 (timed_uncalled c past i n b h.0);
  woken = λ c past i armed h up. moves_asked s c past i armed (wake_row (Server i) (c.hosts i).state c.clock) h.1 (idle_works any_message i (c.hosts i).state _ _ (wakes_works any_message (Server i) (c.hosts i).state c.clock)) (wakes_posts (Server i) (c.hosts i).state c.clock (h.0.posts.1 i)).0 (woken_uncalled c past i h.0);
  started = λ c past i after fall h down. moves_asked s c past i unarmed (start_row (Server i) c.clock c.count (begun_by_disk (Server i) (c.hosts i).state after fall)) h.1
      (idle_works any_message i (c.hosts i).state _ _ (starts_works any_message (Server i) (c.hosts i).state c.clock c.count (begun_by_disk (Server i) (c.hosts i).state after fall) (disk_works any_message (Server i) (c.hosts i).state after fall (risen_lines (Server i) c.clock c.count (begun_by_disk (Server i) (c.hosts i).state after fall)) (any_cut fall) (risen_from (Server i) c.clock c.count (begun_by_disk (Server i) (c.hosts i).state after fall))))) (rises_posts (Server i) c.clock c.count (begun_by_disk (Server i) (c.hosts i).state after fall)).0 (started_uncalled c past i after fall h.0 down);
  early = λ c past i fall h down. still_asked s c past _ h.1 refl refl;
  midway = λ c past i after fall h down. still_asked s c past _ h.1 refl (idle_works any_message i (c.hosts i).state _ _ (disk_works any_message (Server i) (c.hosts i).state after fall (lines.Fault (Server i) ∷ []) (any_cut fall) (one_from (Server i) true refl)));
  full = λ c past i after fall h down. still_asked s c past _ h.1 refl (idle_works any_message i (c.hosts i).state _ _ (disk_works any_message (Server i) (c.hosts i).state after fall (lines.Full (Server i) ∷ []) (any_cut fall) (one_from (Server i) true refl)));
}

pub asked_kept : (s : Script) → IsKept (KnownAsked s)
asked_kept s c past x so h = (known_kept c past x so h.0, each_moved (KnownAsked s) (Behind (AskedIn s)) (asked_moves s) c past x so h)

pub asked_first : (s : Script) → KnownAsked s (start s) (set_up_entry s ∷ [])
asked_first s = (
  known_first s,
  record {
    user = λ j. refl;
    handed_is = refl;
    table = λ j. refl;
    acts = λ j. first_passed (λ (ls : List Line). running s (Client j) ls ≡ None) (λ v o h. h) s.volumes [] refl;
    seeks = λ j k z. absurd cc;
    lists = first_lists s;
    told = tt;
    ones = tt;
    last = λ j act r. absurd cc;
    origins = tt;
    asked = λ j act r. absurd cc;
    late = λ j act r. absurd cc;
    upto = tt;
    numbers = tt;
    behind = tt;
    late_seek = λ j k r. absurd cc;
    seats = λ j n seat m e. absurd cc;
  },
)

pub asked_at : (s : Script) (h : List Entry) (end : Cell) → RunsTo h s end → KnownAsked s end (past_of (set_up_entry s ∷ []) h)
asked_at s h end r = run_keeps (KnownAsked s) (asked_kept s) r.inputs s (set_up_entry s ∷ []) h end (asked_first s) r.leads

-- ---- the laws

pub run_acts : ActsAreTold
run_acts s h end r j = (asked_at s h end r).1.acts j

call_asked : (s : Script) (sent : List Message) (past : List Entry) (head : Head) (user : List ℕ) (call : FsCall) → IsOne sent head user call → Origin s past head user call → IsAsked s sent past head user call
call_asked s sent past head user call one o = record { one = one; act = o.act; called = o.called; own_user = o.own_user; own_call = o.own_call }

pub run_asked : CallsAreAsked
run_asked s h end r =
    let past : List Entry = past_of (set_up_entry s ∷ []) h in
    let A : AskedIn s end past = (asked_at s h end r).1 in
    record {
      calls = λ j place head user call at from. call_asked s end.sent past head user call
          (by_client j head.from (IsOne end.sent head user call) from (each_at (IfCall (IsOne end.sent)) end.sent place (record { head = head; carried = carried.Call user (ask.File call) }) at A.ones))
          (by_client j head.from (Origin s past head user call) from (each_at (IfCall (Origin s past)) end.sent place (record { head = head; carried = carried.Call user (ask.File call) }) at A.origins));
      waits = λ j act run. record { called = A.asked j act run; late = A.late j act run };
    }

pub run_told : LocTellsTheScript
run_told s h end r place m at from = each_at (IsToldByLoc s) end.sent place m at (asked_at s h end r).1.told from

pub run_seeks : SeeksAreAsked
run_seeks s h end r j k z = let q : IsSeeking s j (end.clients j) k (past_of (set_up_entry s ∷ []) h) = (asked_at s h end r).1.seeks j k z in (q.idle, (q.needs, q.asked))

-- ---- pairs

pub run_pairs : PairsAreKnown
run_pairs s h end r =
    let K : KnownAsked s end (past_of (set_up_entry s ∷ []) h) = asked_at s h end r in
    let w = pairs_known s h end r in
    record {
      calls = λ j place m at is from. call_up K.0.keys.callees end.clients j m.head m.carried is from (each_at (IfCall (λ y user call. IsKnown K.0.keys.callees end.clients y.to (key_of y))) end.sent place m at K.0.keys.calls) (each_at (IfSeek (IsUpToLast end.clients)) end.sent place m at K.1.upto);
      replies = w;
      told = λ j place m at from to. each_at (IsBehindLast end.clients) end.sent place m at K.1.behind from j to;
    }
