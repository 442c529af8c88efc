-- Each timeout of a run is of a call that was sent before, and the one below it was told, however many servers a cell has.
use Rattle.spec_model.specs.Calls.{key_of}
use Rattle.law_legal.proofs.ClientCallsOfAct.{up_to_last, its_last}
use Rattle.law_legal.proofs.ClientCallsAtHome.{homes_first, homes_kept, IsServer, callee_server, Addressed}
use Rattle.law_legal.proofs.ClientCallsInTurn.{KnownBy}
use Rattle.law_legal.proofs.DatabaseLines.{is_of_loc, all_of_loc}
use Rattle.law_legal.proofs.ActCalls.{IsSeeking, of_client, IsUpToLast}
use Rattle.law_legal.proofs.ActCallsInRuns.{placed_in, told_in}
use Rattle.spec_breaks.specs.declared.types.OwedBreak.{OwedBreak}
use Rattle.spec_history.specs.declared.lines.Line.{Line}
use Rattle.spec_history.specs.declared.lines.Line.TheVariants as lines
use Rattle.spec_history.specs.declared.scripts.Script.{Script}
use Rattle.spec_ideal.specs.Operations.{volume_changed}
use Rattle.law_legal.proofs.ActSteps.{begins_acts, given_acts, by_quiet, sought_quiet}
use Rattle.law_legal.proofs.ActLines.{seeks_act, IfSeek, runs_act}
use Rattle.law_legal.proofs.OwedPasses.{all_lines}
use Rattle.law_legal.proofs.ActLines.{last_key}
use Rattle.law_legal.proofs.BaseLaws.{IfCall, both, each_at, Each}
use Rattle.law_legal.proofs.VolumeChanges.{run_each}
use Rattle.law_legal.proofs.ServerChooses.{risen_lines}
use Rattle.law_legal.proofs.ServerHearsInRuns.{client_given}
use Rattle.law_legal.proofs.CallKeysOnce.{IsKnown, any_told, by_key}
use Rattle.law_legal.proofs.RunsKnown.{Known}
use Rattle.law_legal.proofs.ActCalls.{AskedIn}
use Rattle.law_legal.proofs.RunWalk.{EachMove, IsKept, each_moved}
use Rattle.law_legal.proofs.OwedRules.{Breaks}
use Rattle.law_legal.proofs.OwedInRuns.{breaks_first, breaks_kept}
use Rattle.law_legal.proofs.OwedLines.{disk_lines}
use Rattle.law_legal.proofs.OwedFacts.{CallOut}
use Rattle.law_legal.proofs.RunLinesInPlace.{serves_each}
use Rattle.law_legal.proofs.ActBegins.{row_begun}
use Rattle.law_legal.proofs.ClientTimesOut.{given_has}
use Rattle.law_legal.proofs.ClientTries.{GivenWaits, Waits, waits_first, waits_kept}
use Rattle.law_legal.proofs.ClientTakesReply.{UnansweredFacts, unanswered_first, unanswered_kept}
use Rattle.law_legal.specs.Breaks.{HasTimeout}
use Rattle.law_legal.specs.Ideal.{set_up_entry}
use Rattle.law_legal.specs.Legal.{AwaitsReply, HasAnswer, IsInPlace, IsTimedQuestion}
use Rattle.law_legal.specs.Parts.{EachLine}
use Rattle.law_legal.specs.Past.{CalledSince, SendsTo, WasSent, has_begun, has_given, lines_of, sent_of}
use Rattle.law_legal.specs.ServerParts.{IsTimeoutGood, TimeoutsAreGood}
use Rattle.afs_num.specs.Nodes.{same_node}
use Rattle.afs_num.specs.declared.calls.FsCall.{FsCall}
use Rattle.afs_num.specs.declared.histories.Actor.{Actor}
use Rattle.afs_num.specs.declared.histories.Actor.TheVariants as actors
use Rattle.afs_num.specs.declared.messages.Message.{Message}
use Rattle.afs_num.specs.declared.messages.Received.TheVariants.{Whole}
use Rattle.afs_num.specs.declared.types.Code.{Code}
use Rattle.afs_num.specs.declared.types.Key.{Key}
use Rattle.afs_num.specs.declared.types.Node.{Node}
use Rattle.afs_num.specs.declared.types.Node.TheVariants.{Client, Server, Loc}
use Rattle.spec_rows.specs.Callbacks.{expired, owe_line, quit_line, quits, retries, risen_turn, still_owed}
use Rattle.spec_rows.specs.ClientRow.{call_of, client_row, dead_code, dropped, given_up_in, gives_up, tries_again, question, seeks_on, sought_by, sought_ends, timeout_line, act_of}
use Rattle.spec_rows.specs.Going.{ClientState, Going, Seek}
use Rattle.law_legal.proofs.RunSteps.{blow_line}
use Rattle.spec_rows.specs.Runs.{Cell, Entry, Fall, Moved, begun_by_disk, message_at, start, user_at}
use Rattle.law_legal.proofs.RunSteps.{loc_becomes}
use Rattle.spec_rows.specs.ServerRow.{Decision, does, drops, refuses, repeats, saves, shows, tells_boot}
use Rattle.spec_rows.specs.ServerSteps.{back_timeout_row, server_row, start_row, wake_row}
use Rattle.spec_rows.specs.States.{BackCall, Backs, CacheEntry, ServerState}
use Rattle.std.proofs.Common.{ap, ltb-true, ◌<◌, zero, suc, ◌≡◌, ◌≤◌, ℕ, ◌+◌, ◌⊎◌, inl, inr, Bool, true, false, cond, List, [], ◌∷◌, ◌++◌, map, Some, refl, sym, subst, ◌∙◌, nat_lt, ltb-false, arith, negsuc}

abbrev Timely : Script → Actor → List Entry → List Line → List Line → Type 0
Timely s who past own ls = EachLine (IsTimeoutGood s) who past own ls

-- ---- lines without timeouts

abbrev is_timeless : Line → Bool
is_timeless (lines.Timeout n callee epoch number count) = false
is_timeless l = true

timeless_line : (s : Script) (who : Actor) (l : Line) (past : List Entry) (own next : List Line) → is_timeless l ≡ true → IsTimeoutGood s who l past own next
timeless_line s who (lines.Timeout n callee epoch number count) past own next h = absurd cc
timeless_line s who l past own next h = tt

timeless : (s : Script) (who : Actor) (past : List Entry) (own ls : List Line) → all_lines is_timeless ls ≡ true → Timely s who past own ls
timeless s who past own [] h = tt
timeless s who past own (l ∷ ls) h = let q = both (is_timeless l) (all_lines is_timeless ls) h in (timeless_line s who l past own ls q.0, timeless s who past (l ∷ own) ls q.1)

owes_timeless : (me : Node) (os : List OwedBreak) → all_lines is_timeless (map (owe_line me) os) ≡ true
owes_timeless me [] = refl
owes_timeless me (o ∷ os) = owes_timeless me os

quits_timeless : (me n : Node) (os : List OwedBreak) → all_lines is_timeless (map (quit_line me n) os) ≡ true
quits_timeless me n [] = refl
quits_timeless me n (o ∷ os) = quits_timeless me n os

dropped_timeless : (me : Node) (es : List CacheEntry) (ls : List Line) → all_lines is_timeless ls ≡ true → all_lines is_timeless (dropped me es ls) ≡ true
dropped_timeless me [] ls h = h
dropped_timeless me (e ∷ es) ls h = dropped_timeless me es ls h

-- ---- an entry that is given a message, or in which an act begins, times nothing out

given_more : (l : Line) (own : List Line) → has_given own ≡ true → has_given (l ∷ own) ≡ true
given_more (lines.Given place) own h = refl
given_more l own h = h

given_either : (l : Line) (own ls : List Line) → (has_given own ≡ true) ⊎ (has_given (l ∷ ls) ≡ true) → (has_given (l ∷ own) ≡ true) ⊎ (has_given ls ≡ true)
given_either l own ls (inl h) = inl (given_more l own h)
given_either (lines.Given place) own ls (inr h) = inl refl
given_either l own ls (inr h) = inr h

true_not : (x : Bool) → x ≡ true → x ≡ false → ⊥
true_not x a b = let no : true ≡ false = sym a ∙ b in absurd cc

given_timely : (s : Script) (who : Actor) (past : List Entry) (own ls : List Line) → EachLine (IsInPlace s) who past own ls → (has_given own ≡ true) ⊎ (has_given ls ≡ true) → Timely s who past own ls
given_timely s who past own [] p h = tt
given_timely s who past own (lines.Timeout n callee epoch number count ∷ ls) p h =
    absurd (elim h [ inl x ↦ true_not (has_given own) x p.0.1.0.0 | inr x ↦ true_not (has_given ls) x p.0.1.1.0 ])
given_timely s who past own (l ∷ ls) p h = (tt, given_timely s who past (l ∷ own) ls p.1 (given_either l own ls h))

begun_more : (n : Node) (t : Bool) (x : Bool) → x ≡ true → cond t true x ≡ true
begun_more n true x h = refl
begun_more n false x h = h

begun_by : (t : Bool) (x y : Bool) → cond t true x ≡ true → (cond t true y ≡ true) ⊎ (x ≡ true)
begun_by true x y h = inl refl
begun_by false x y h = inr h

begun_either : (n : Node) (l : Line) (own ls : List Line) → (has_begun n own ≡ true) ⊎ (has_begun n (l ∷ ls) ≡ true) → (has_begun n (l ∷ own) ≡ true) ⊎ (has_begun n ls ≡ true)
begun_either n (lines.Begin m act) own ls (inl h) = inl (begun_more n (same_node m n) (has_begun n own) h)
begun_either n (lines.Begin m act) own ls (inr h) = begun_by (same_node m n) (has_begun n ls) (has_begun n own) h
begun_either n l own ls h = h

begun_timely : (s : Script) (n : Node) (past : List Entry) (own ls : List Line) → EachLine (IsInPlace s) (actors.Node n) past own ls → (has_begun n own ≡ true) ⊎ (has_begun n ls ≡ true) → Timely s (actors.Node n) past own ls
begun_timely s n past own [] p h = tt
begun_timely s n past own (lines.Timeout m callee epoch number count ∷ ls) p h =
    let own_ : (has_begun n own ≡ false) × (has_begun n ls ≡ false) = subst (λ (q : Node). (has_begun q own ≡ false) × (has_begun q ls ≡ false)) (sym (one_node n m p.0.0)) (p.0.1.0.1, p.0.1.1.1) in
    absurd (elim h [ inl x ↦ true_not (has_begun n own) x own_.0 | inr x ↦ true_not (has_begun n ls) x own_.1 ])
  where
    one_node : (a b : Node) → actors.Node a ≡ actors.Node b → a ≡ b
    one_node a b e = cc
begun_timely s n past own (l ∷ ls) p h = (tt, begun_timely s n past (l ∷ own) ls p.1 (begun_either n l own ls h))

-- ---- the next timeout of a call

below_by : (n callee : Node) (epoch number tries : ℕ) (ls : List Line) → ((k : ℕ) → 1 ≤ k → k ≤ tries → HasTimeout n callee epoch number k ls) → (tries + 1 ≡ 1) ⊎ ((k : ℕ) × ((tries + 1 ≡ k + 1) × HasTimeout n callee epoch number k ls))
below_by n callee epoch number zero ls h = inl refl
below_by n callee epoch number (suc k) ls h = inr (suc k, (refl, h (suc k) (omega arith) (omega arith)))

-- ---- a client's

-- the reply to the call is awaited still
awaited : (s : Script) (c : Cell) (past : List Entry) (n : ℕ) (act : Going) (count : ℕ) (next : List Line) → UnansweredFacts s c past → (c.clients n).running ≡ Some act → IsServer (c.clients n).callee → (HasTimeout (Client n) (c.clients n).callee (c.clients n).epoch (c.clients n).last count (lines_of past) → ⊥) → (count ≡ 3 → HasAnswer (Client n) (negsuc 0) next)
    → AwaitsReply s (Client n) (c.clients n).callee (last_key n (c.clients n)) (c.clients n).user (call_of (c.clients n) act) count past [] next
awaited s c past n act count next h r server none dead =
    let known : Known c past = h.0.0.0.0.0.0.0.0.0 in
    let asked : AskedIn s c past = h.0.0.0.0.0.0.0.0.1 in
    record {
      act = act;
      runs = asked.acts n ∙ runs_act (c.clients n) act r;
      called = subst (λ (u : List ℕ). CalledSince (last_key n (c.clients n)) u (call_of (c.clients n) act) past) (sym (asked.user n)) (asked.asked n act r);
      last = λ place m at is from.
          let there : message_at c.sent place ≡ Some m = ap (λ (ms : List Message). message_at ms place) (sym known.hears.told) ∙ at in
          up_to_last known.keys.callees c.clients n m.head m.carried is from (each_at (IfCall (KnownBy known.keys.callees c.clients)) c.sent place m there known.keys.calls) (each_at (IfSeek (IsUpToLast c.clients)) c.sent place m there asked.upto);
      unanswered = (h.1 n).calls act r server;
      once = none;
      dead = dead;
    }

-- behind what is dropped stands the answer
pub dead_answer : (me : Node) (es : List CacheEntry) (code : Code) → HasAnswer me code.0 (dropped me es (lines.Answer me code ∷ []))
dead_answer me [] code = inl (refl, refl)
dead_answer me (e ∷ es) code = dead_answer me es code

waits_timely : (s : Script) (c : Cell) (past : List Entry) (n : ℕ) (act : Going) (t : Bool) → Waits n (c.clients n) past → UnansweredFacts s c past → (c.clients n).running ≡ Some act → IsServer (c.clients n).callee → nat_lt (c.clients n).tries 2 ≡ t
    → Timely s (actors.Node (Client n)) past [] (cond t (tries_again (Client n) (c.clients n) act) (gives_up (Client n) (c.clients n) (call_of (c.clients n) act))).lines
waits_timely s c past n act true w h r server e =
    let x : ClientState = c.clients n in
    let l : x.tries < 2 = ltb-true x.tries 2 e in (
      record {
        below = below_by (Client n) x.callee x.epoch x.last x.tries (lines_of past) (w.tried act r);
        few = omega (arith, l);
        sent = inl (record { user = x.user; call = call_of x act; sent = w.sent act r; awaited = awaited s c past n act (x.tries + 1) [] h r server (λ y. (let le : x.tries + 1 ≤ x.tries = h.0.1 n act (runs_act x act r) x.callee (x.tries + 1) y in absurd (omega (arith, le)))) (λ y. (let third : x.tries + 1 ≡ 3 = y in absurd (omega (arith, l, third)))) });
      },
      tt,
    )
waits_timely s c past n act false w h r server e =
    let x : ClientState = c.clients n in
    let le : 2 ≤ x.tries = ltb-false x.tries 2 e in (
      record {
        below = inr (2, (refl, w.tried act r 2 (omega arith) le));
        few = omega arith;
        sent = inl (record { user = x.user; call = call_of x act; sent = w.sent act r; awaited = awaited s c past n act 3 _ h r server (λ y. (h.0.0.1 n).alive act (runs_act x act r) x.callee y) (λ y. dead_answer (Client n) (given_up_in (volume_changed (call_of x act)) x.cache) dead_code) });
      },
      timeless s (actors.Node (Client n)) past _ _ (dropped_timeless (Client n) (given_up_in (volume_changed (call_of x act)) x.cache) (lines.Answer (Client n) dead_code ∷ []) refl),
    )

-- what is asked of the location database
seeking_act : (s : Script) (c : Cell) (past : List Entry) (n : ℕ) (k : Seek) → UnansweredFacts s c past → (c.clients n).seeking ≡ Some k → act_of (c.clients n) ≡ Some k.act
seeking_act s c past n k h z = seeks_act (c.clients n) k (h.0.0.0.0.0.0.0.0.1.seeks n k z).idle z

asked_tried : (s : Script) (c : Cell) (past : List Entry) (n : ℕ) (k : Seek) → UnansweredFacts s c past → (c.clients n).seeking ≡ Some k → (i : ℕ) → 1 ≤ i → i ≤ (c.clients n).tries → HasTimeout (Client n) (c.clients n).callee (c.clients n).epoch (c.clients n).last i (lines_of past)
asked_tried s c past n k h z i a b =
    let q : IsSeeking s n (c.clients n) k past = h.0.0.0.0.0.0.0.0.1.seeks n k z in
    subst (λ (m : Node). HasTimeout (Client n) m (c.clients n).epoch (c.clients n).last i (lines_of past)) (sym q.callee) (q.tried i a b)

asked_question : (s : Script) (c : Cell) (past : List Entry) (n : ℕ) (k : Seek) (count : ℕ) (next : List Line) → UnansweredFacts s c past → (c.clients n).seeking ≡ Some k → (HasTimeout (Client n) (c.clients n).callee (c.clients n).epoch (c.clients n).last count (lines_of past) → ⊥) → (count ≡ 3 → HasAnswer (Client n) (negsuc 0) next)
    → IsTimedQuestion s (Client n) (c.clients n).callee (last_key n (c.clients n)) count past [] next
asked_question s c past n k count next h z none dead =
    let known : Known c past = h.0.0.0.0.0.0.0.0.0 in
    let asked : AskedIn s c past = h.0.0.0.0.0.0.0.0.1 in
    let q : IsSeeking s n (c.clients n) k past = asked.seeks n k z in
    record {
      is = q.callee;
      user = user_at s n;
      call = question k.operand;
      act = k.act;
      runs = asked.acts n ∙ seeking_act s c past n k h z;
      asked = q.asked;
      last = its_last known.keys.callees c.clients n (last_key n (c.clients n)) (sent_of past) refl (subst (Each (IfCall (KnownBy known.keys.callees c.clients))) (sym known.hears.told) known.keys.calls) (subst (Each (IfSeek (IsUpToLast c.clients))) (sym known.hears.told) asked.upto);
      unanswered = (h.1 n).questions k z;
      once = none;
      dead = dead;
    }

-- or it is of what an act asked the location database
missed_timely : (s : Script) (c : Cell) (past : List Entry) (n : ℕ) (k : Seek) (t : Bool) → UnansweredFacts s c past → (c.clients n).seeking ≡ Some k → nat_lt (c.clients n).tries 2 ≡ t
    → Timely s (actors.Node (Client n)) past [] (cond t (seeks_on (Client n) (c.clients n) k) (sought_ends (Client n) (c.clients n) (λ ls. timeout_line (Client n) (c.clients n) 3 ∷ ls) dead_code)).lines
missed_timely s c past n k true h z e =
    let x : ClientState = c.clients n in
    let l : x.tries < 2 = ltb-true x.tries 2 e in (
      record {
        sent = inr (asked_question s c past n k (x.tries + 1) [] h z (λ y. (let le : x.tries + 1 ≤ x.tries = h.0.1 n k.act (seeking_act s c past n k h z) x.callee (x.tries + 1) y in absurd (omega (arith, le)))) (λ y. (let third : x.tries + 1 ≡ 3 = y in absurd (omega (arith, l, third)))));
        below = below_by (Client n) x.callee x.epoch x.last x.tries (lines_of past) (asked_tried s c past n k h z);
        few = omega (arith, l);
      },
      tt,
    )
missed_timely s c past n k false h z e =
    let x : ClientState = c.clients n in
    let le : 2 ≤ x.tries = ltb-false x.tries 2 e in (
      record {
        sent = inr (asked_question s c past n k 3 (lines.Answer (Client n) dead_code ∷ []) h z ((h.0.0.1 n).alive k.act (seeking_act s c past n k h z) x.callee) (λ y. inl (refl, refl)));
        below = inr (2, (refl, asked_tried s c past n k h z 2 (omega arith) le));
        few = omega arith;
      },
      (tt, tt),
    )

-- ---- a server's

was_sent : (callee : Node) (k : Key) (user : List ℕ) (call : FsCall) (newer : List Entry) (at : Entry) (older : List Entry) → SendsTo callee k user call at.sent → WasSent callee k user call (newer ++ (at ∷ older))
was_sent callee k user call [] at older h = inl h
was_sent callee k user call (e ∷ newer) at older h = inr (was_sent callee k user call newer at older h)

backs_timely : (s : Script) (i boot : ℕ) (n : Node) (k : BackCall) (b : Backs) (past : List Entry) (t : Bool) (last : ℕ) → CallOut (Server i) n k last boot past → nat_lt k.tries 2 ≡ t → Timely s (actors.Node (Server i)) past [] (cond t (retries (Server i) boot n k b) (quits (Server i) boot n k b)).lines
backs_timely s i boot n k b past true last out e =
    (record { few = (let l : k.tries < 2 = ltb-true k.tries 2 e in omega (arith, l)); sent = inl (record { user = []; call = _; sent = subst (WasSent n _ [] _) (sym out.sent.split) (was_sent n _ [] _ out.sent.newer out.sent.at out.sent.older out.sent.sent); awaited = tt }); below = below_by (Server i) n boot k.number k.tries (lines_of past) out.tries }, tt)
backs_timely s i boot n k b past false last out e =
    let le : 2 ≤ k.tries = ltb-false k.tries 2 e in (
      record { sent = inl (record { user = []; call = _; sent = subst (WasSent n _ [] _) (sym out.sent.split) (was_sent n _ [] _ out.sent.newer out.sent.at out.sent.older out.sent.sent); awaited = tt }); below = inr (2, (refl, out.tries 2 (omega arith) le)); few = omega arith },
      timeless s (actors.Node (Server i)) past _ _ (quits_timeless (Server i) n (still_owed k b)),
    )

timed_timely : (s : Script) (c : Cell) (past : List Entry) (i : ℕ) (n : Node) (k : BackCall) → CallOut (Server i) n k (c.hosts i).state.backs.last_call (c.hosts i).state.lasting.boot past → Timely s (actors.Node (Server i)) past [] (back_timeout_row (Server i) (c.hosts i).state c.clock n k).lines
unfolding back_timeout_row
timed_timely s c past i n k out = backs_timely s i (c.hosts i).state.lasting.boot n k (expired c.clock (c.hosts i).state.backs) past (nat_lt k.tries 2) (c.hosts i).state.backs.last_call out refl

does_given : (me : Node) (x : ServerState) (clock place : ℕ) (d : Decision) (ls : List Line) → has_given (does me x clock place d ls).lines ≡ true
does_given me x clock place drops ls = refl
does_given me x clock place (tells_boot head) ls = refl
does_given me x clock place (repeats reply) ls = refl
does_given me x clock place (refuses head code) ls = refl
does_given me x clock place (shows head r) ls = refl
does_given me x clock place (saves head c) ls = refl

row_given : (me : Node) (x : ServerState) (clock place : ℕ) (m : Message) → has_given (server_row me x clock place (Whole m)).lines ≡ true
unfolding server_row
row_given me x clock place m = does_given me x clock place _ _

woken_timely : (s : Script) (past : List Entry) (i : ℕ) (x : ServerState) (clock : ℕ) → Timely s (actors.Node (Server i)) past [] (wake_row (Server i) x clock).lines
unfolding wake_row
woken_timely s past i x clock = tt

starts_timely : (s : Script) (past : List Entry) (i : ℕ) (x : ServerState) (clock count : ℕ) (after : Bool) (fall : Fall) → Timely s (actors.Node (Server i)) past [] (start_row (Server i) clock count (begun_by_disk (Server i) x after fall)).lines
unfolding start_row
starts_timely s past i x clock count after fall =
    timeless s (actors.Node (Server i)) past [] _ (disk_lines is_timeless (λ n key z. refl) (λ v. refl) (Server i) x after fall (risen_lines (Server i) clock count (begun_by_disk (Server i) x after fall)) (owes_timeless (Server i) (risen_turn (Server i) clock count).backs.lists.owed))

stays_timely : (s : Script) (past : List Entry) (i : ℕ) (x : ServerState) (after : Bool) (fall : Fall) (l : Line) → is_timeless l ≡ true → Timely s (actors.Node (Server i)) past [] ((begun_by_disk (Server i) x after fall).before (l ∷ []))
stays_timely s past i x after fall l h = timeless s (actors.Node (Server i)) past [] _ (disk_lines is_timeless (λ n key z. refl) (λ v. refl) (Server i) x after fall (l ∷ []) (rw h refl))

blow_timely : (s : Script) (past : List Entry) (i place : ℕ) (t : Bool) → Timely s (actors.Node (Server i)) past [] (lines.Given place ∷ blow_line i t ∷ [])
blow_timely s past i place true = (tt, (tt, tt))
blow_timely s past i place false = (tt, (tt, tt))

-- ---- every step

abbrev TimedFacts : Script → Cell → List Entry → Type 0
TimedFacts s c past = Breaks s c past × (GivenWaits s c past × (UnansweredFacts s c past × Addressed s c past))

abbrev TimelyStep : Script → Cell → List Entry → Moved → Type 0
TimelyStep s c past m = Timely s m.entry.actor past [] m.entry.lines

loc_timeless : (l : Line) → is_of_loc l ≡ true → is_timeless l ≡ true
loc_timeless (lines.Timeout n callee epoch number count) h = absurd cc
loc_timeless l h = refl

timely_moves : (s : Script) → EachMove (TimedFacts s) (TimelyStep s)
timely_moves s = record {
  void = λ c past h. (tt, tt);
  ticked = λ c past n h. (tt, tt);
  begun = λ c past n act h r z. begun_timely s (Client n) past [] _ ((begins_acts n (c.clients n) c.clock act r z).each s past (h.1.0.0.0.0.0.1.table n) (h.1.0.0.0.0.0.1.acts n)) (inr (row_begun (c.clients n) n c.clock act));
  told = λ c past n place m h at to un. given_timely s (actors.Node (Client n)) past [] _
      ((given_acts (by_key (IsKnown h.1.0.0.0.0.0.0.keys.callees c.clients)) any_told n (c.clients n) c.clock place m (h.1.0.0.0.0.0.0.keys.replies n) (h.1.0.0.0.0.0.1.seats n)).each s past (h.1.0.0.0.0.0.1.table n) (h.1.0.0.0.0.0.1.acts n))
      (inr (given_has (client_row (Client n) (c.clients n) c.clock place (Whole m)).lines c.sent m ((client_given c past n place m h.1.0.0.0.0.0.0.hears to at).given c.sent ∙ at)));
  sought = λ c past n place m k h at to z e. by_quiet (λ st. Timely s (actors.Node (Client n)) past [] st.lines) n (c.clients n) place k m.head m.carried (sought_by (Client n) (c.clients n) c.clock place k m.head m.carried)
      (sought_quiet s n (c.clients n) c.clock place k m.head m.carried (placed_in s c past n k h.1.0.0.0.0.0.1 z) (told_in s c past n place m k h.1.0.0.0.0.0.1 at e)) (λ code y has. (tt, (tt, tt))) (tt, tt) (tt, tt);
  missed = λ c past n k h r z. missed_timely s c past n k (nat_lt (c.clients n).tries 2) h.1.1.0 z refl;
  loc = λ c past l ls ms h st. timeless s (actors.Node Loc) past [] ls (all_of_loc is_timeless loc_timeless ls st.lines);
  waited = λ c past n act h r. waits_timely s c past n act (nat_lt (c.clients n).tries 2) (h.1.0.1 n) h.1.1.0 r (callee_server n c.clients act h.1.1.1.1.0.0 h.1.1.1.1.0.1 r) refl;
  fallen = λ c past n h. (tt, tt);
  risen = λ c past n h. (tt, tt);
  served = λ c past i place m armed h up at to. given_timely s (actors.Node (Server i)) past [] _ (serves_each s i past (c.hosts i).state c.clock place m) (inr (row_given (Server i) (c.hosts i).state c.clock place m));
  cut = λ c past i place m t h up at to. blow_timely s past i place t.stops;
  stopped = λ c past i h up. (tt, tt);
  stop_set = λ c past i calls pick armed h up. (tt, tt);
  fail_set = λ c past i call armed h up. (tt, tt);
  timed = λ c past i n b armed h up at. timed_timely s c past i n b ((h.0.backed.all i).outs up n b at);
  woken = λ c past i armed h up. woken_timely s past i (c.hosts i).state c.clock;
  started = λ c past i after fall h down. starts_timely s past i (c.hosts i).state c.clock c.count after fall;
  early = λ c past i fall h down. (tt, tt);
  midway = λ c past i after fall h down. stays_timely s past i (c.hosts i).state after fall (lines.Fault (Server i)) refl;
  full = λ c past i after fall h down. stays_timely s past i (c.hosts i).state after fall (lines.Full (Server i)) refl;
}

timed_facts_kept : (s : Script) → IsKept (TimedFacts s)
timed_facts_kept s c past x so h = (breaks_kept s c past x so h.0, (waits_kept s c past x so h.1.0, (unanswered_kept s c past x so h.1.1.0, homes_kept s c past x so h.1.1.1)))

pub run_timed : TimeoutsAreGood
run_timed s h end r =
    run_each (TimedFacts s) (λ past e. EachLine (IsTimeoutGood s) e.actor past [] e.lines) (timed_facts_kept s) (λ c past x so k. each_moved (TimedFacts s) (TimelyStep s) (timely_moves s) c past x so k) r.inputs s (set_up_entry s ∷ []) h end (breaks_first s, (waits_first s, (unanswered_first s, homes_first s))) r.leads
