-- A client's file call is all that a legal history asks of it, however many servers a cell has.
use Rattle.spec_rows.specs.ClientRow.{act_of}
use Rattle.law_legal.proofs.RunMessages.{Posted, OwnStep, own_moves}
use Rattle.law_legal.proofs.ClientQuestions.{AskStep, AroundNow, AreBy, seeks_moves, own_questions, IsOwnQuestion}
use Rattle.law_legal.proofs.ServerTellsTruth.{truthful_first, Truthful, truthful_kept}
use Rattle.law_legal.proofs.ClientKnowsLocBoot.{AcquaintedFacts, acquainted_first, acquainted_kept}
use Rattle.law_legal.proofs.ActIsDue.{due_kept, due_first, DueFacts}
use Rattle.law_legal.proofs.DatabaseDoes.{IsSoundLoc}
use Rattle.spec_history.specs.declared.scripts.Script.{Script}
use Rattle.law_legal.proofs.ClientCallsAtHome.{IsHome}
use Rattle.law_legal.proofs.ActLines.{last_key, runs_act, IfSeek, OfSeek}
use Rattle.law_legal.proofs.ClientCallsOfAct.{AsksNow, IsNow, asks_moves, is_at_home, its_last}
use Rattle.law_legal.proofs.ClientCallsInBoot.{AreBooted, KnowsIt, booted_first, booted_kept, booted_now}
use Rattle.law_legal.proofs.BaseLaws.{ByClient, Each, IfCall, OfCall, OfClient, by_client, client_number}
use Rattle.law_legal.proofs.ActFollows.{none_runs}
use Rattle.law_legal.proofs.KeptAtHome.{GivesHome, HomedIn, IsAsked, homed_first, homed_kept, is_asked}
use Rattle.law_legal.proofs.ClientCallsInTurn.{KnownBy, TakesTurn, TurnsNow, callee_is, turn_moves}
use Rattle.law_legal.proofs.ClientLearnsBoots.{KnownLearnt, IsToBegun, learnt_first, learnt_kept}
use Rattle.law_legal.proofs.RunWalk.{IsKept, each_moved}
use Rattle.law_legal.proofs.ClientCallsNumbered.{IsNumbered, Numbered, numbered_first, numbered_kept}
use Rattle.law_legal.proofs.ClientSent.{call_is, each_front}
use Rattle.law_legal.proofs.BaseWords.{IsOne}
use Rattle.law_legal.proofs.VolumeChanges.{run_each}
use Rattle.law_legal.proofs.ActCallsInRuns.{KnownAsked}
use Rattle.law_legal.proofs.ActCalls.{IsUpToLast}
use Rattle.law_legal.specs.Ideal.{call_under, set_up_entry}
use Rattle.law_legal.specs.Legal.{GivesSome, IsInOrder, KnowsBoot, OwnCall, OwnCallOf, as_asked}
use Rattle.law_legal.specs.Lives.{epoch_after}
use Rattle.law_legal.specs.Parts.{CallsAreOwn, EachSent, IsOwnCall, IsOwn}
use Rattle.law_legal.specs.Past.{called_key, lines_of, running, sent_of}
use Rattle.afs_num.specs.declared.calls.FsCall.{FsCall}
use Rattle.afs_num.specs.declared.messages.Call.TheVariants as ask
use Rattle.afs_num.specs.declared.messages.Carried.{Carried}
use Rattle.afs_num.specs.declared.messages.Carried.TheVariants as carried
use Rattle.afs_num.specs.declared.messages.Message.{Message}
use Rattle.afs_num.specs.declared.types.Head.{Head}
use Rattle.afs_num.specs.declared.types.Key.{Key}
use Rattle.afs_num.specs.declared.types.Node.{Node}
use Rattle.afs_num.specs.declared.types.Node.TheVariants.{Admin, Client, Loc, Server}
use Rattle.spec_rows.specs.Going.{ClientState, Going}
use Rattle.spec_rows.specs.Runs.{Cell, Entry, moved, start, user_at, Input}
use Rattle.std.proofs.Common.{ℕ, inl, inr, List, [], ◌∷◌, Some, ◌≡◌, ◌∙◌, ap, refl, subst, sym}

-- ---- what an entry sends

-- what is known of a cell behind the entry
record Around (s : Script) (callees : Key → Node) (clients : ℕ → ClientState) (past : List Entry) : Type 0 where
  all : Each (IfCall (KnownBy callees clients)) (sent_of past)
  upto : Each (IfSeek (IsUpToLast clients)) (sent_of past)
  acts : (j : ℕ) → running s (Client j) (lines_of past) ≡ act_of (clients j)
  users : (j : ℕ) → (clients j).user ≡ user_at s j
  epochs : (j : ℕ) → epoch_after (Client j) (lines_of past) ≡ (clients j).epoch
  numbers : (j : ℕ) → IsNumbered j (clients j) (sent_of past)
  asked : (j : ℕ) (act : Going) → (clients j).running ≡ Some act → IsAsked s (clients j) act

-- and of messages
record AreSent (s : Script) (callees : Key → Node) (clients : ℕ → ClientState) (past : List Entry) (ms : List Message) : Type 0 where
  ones : Each (IfCall (IsOne (sent_of past))) ms
  known : Each (IfCall (KnownBy callees clients)) ms
  homes : Each (IfCall (IsHome s)) ms
  boots : Each (IfCall (IsToBegun past)) ms
  now : Each (IfCall (IsNow clients)) ms
  turns : Each (IfCall (TakesTurn past)) ms
  knows : Each (IfCall (KnowsIt s past)) ms
  questions : Each (IfSeek (IsOwnQuestion s past)) ms

in_order : (j : ℕ) (x : ClientState) (act : Going) (sent : List Message) → x.running ≡ Some act → IsNumbered j x sent → IsInOrder (last_key j x) sent
in_order j x act sent run (inl e) = absurd (none_runs x.running act e.1.0 run)
in_order j x act sent run (inr y) = y.1

own_by : (s : Script) (callees : Key → Node) (clients : ℕ → ClientState) (past : List Entry) (head : Head) (user : List ℕ) (call : FsCall) (n : Node) → head.from ≡ n → Around s callees clients past
    → OfClient head.from (IsOne (sent_of past) head user call) → OfClient head.from (KnownBy callees clients head user call) → OfClient head.from (IsHome s head user call) → OfClient head.from (IsToBegun past head user call) → OfClient head.from (IsNow clients head user call) → OfClient head.from (TakesTurn past head user call) → OfClient head.from (KnowsIt s past head user call) → OwnCallOf s n head user call past
own_by s callees clients past head user call (Client j) e A one q home b now turn known =
    let under : call_under (called_key head) (sent_of past) ≡ Some (user, call) = by_client j head.from (IsOne (sent_of past) head user call) e one in
    let x : IsNow clients head user call = by_client j head.from (IsNow clients head user call) e now in
    let same : x.client ≡ j = client_number x.client j (sym (ap (λ (k : Key). k.node) x.its.key) ∙ e) in
    let asked : IsAsked s (clients x.client) x.its.act = A.asked x.client x.its.act x.its.runs in
    record {
      own_user = x.its.user' ∙ (A.users x.client ∙ ap (user_at s) same);
      act = x.its.act;
      runs = subst (λ (k : ℕ). running s (Client k) (lines_of past) ≡ Some x.its.act) same (A.acts x.client ∙ runs_act (clients x.client) x.its.act x.its.runs);
      unended = asked.unended;
      asks = ap as_asked x.its.asks ∙ call_is (clients x.client) x.its.act;
      opcode = x.its.opcode;
      epoch = ap (λ (k : Key). k.epoch) x.its.key ∙ (sym (A.epochs x.client) ∙ ap (λ (k : ℕ). epoch_after (Client k) (lines_of past)) same);
      order = subst (λ (k : Key). IsInOrder k (sent_of past)) (sym x.its.key) (in_order x.client (clients x.client) x.its.act (sent_of past) x.its.runs (A.numbers x.client));
      last = its_last callees clients x.client (called_key head) (sent_of past) x.its.key A.all A.upto;
      turn = by_client j head.from (TakesTurn past head user call) e turn;
      one = under;
      one_callee = callee_is callees clients j (called_key head) (user, call) (sent_of past) e under A.all ∙ ap Some (sym (by_client j head.from (KnownBy callees clients head user call) e q).called);
      home = is_at_home s head user call (lines_of past) (by_client j head.from (IsHome s head user call) e home) (subst (λ (n : Node). GivesHome s n call) (sym x.its.to) (subst (GivesHome s (clients x.client).callee) (sym x.its.asks) asked.home));
      gives = subst GivesSome (sym x.its.asks) asked.gives;
      boot = by_client j head.from (IsToBegun past head user call) e b;
      known = subst (λ (n : Node). KnowsBoot s n head.to head.boot past) e (by_client j head.from (KnowsIt s past head user call) e known (by_client j head.from (IsHome s head user call) e home).server);
    }
own_by s callees clients past head user call (Server i) e A one q home b now turn known = tt
own_by s callees clients past head user call (Admin i) e A one q home b now turn known = tt
own_by s callees clients past head user call Loc e A one q home b now turn known = tt

claim_of : (s : Script) (callees : Key → Node) (clients : ℕ → ClientState) (past : List Entry) (head : Head) (x : Carried) → Around s callees clients past
    → OfCall (ByClient (IsOne (sent_of past))) head x → OfCall (ByClient (KnownBy callees clients)) head x → OfCall (ByClient (IsHome s)) head x → OfCall (ByClient (IsToBegun past)) head x → OfCall (ByClient (IsNow clients)) head x → OfCall (ByClient (TakesTurn past)) head x → OfCall (ByClient (KnowsIt s past)) head x → OfSeek (IsOwnQuestion s past) head x → OwnCall s head x past
claim_of s callees clients past head (carried.Call user (ask.File call)) A h q o b w u k own = own_by s callees clients past head user call head.from refl A h q o b w u k
claim_of s callees clients past head (carried.Call user (ask.Volume call)) A h q o b w u k own = absurd h
claim_of s callees clients past head (carried.Call user (ask.Location call)) A h q o b w u k own = own
claim_of s callees clients past head (carried.Refusal code) A h q o b w u k own = tt
claim_of s callees clients past head (carried.Reply reply) A h q o b w u k own = tt
claim_of s callees clients past head carried.Notice A h q o b w u k own = tt

claims : (s : Script) (callees : Key → Node) (clients : ℕ → ClientState) (past : List Entry) (ms : List Message) → Around s callees clients past → AreSent s callees clients past ms → EachSent (IsOwnCall s) past ms
claims s callees clients past [] A h = tt
claims s callees clients past (m ∷ ms) A h = (
  claim_of s callees clients past m.head m.carried A h.ones.0 h.known.0 h.homes.0 h.boots.0 h.now.0 h.turns.0 h.knows.0 h.questions.0,
  claims s callees clients past ms A (record { ones = h.ones.1; known = h.known.1; homes = h.homes.1; boots = h.boots.1; now = h.now.1; turns = h.turns.1; knows = h.knows.1; questions = h.questions.1 }),
)

-- what is known of calls, of the boots to which they are sent, and of their numbers
abbrev Claimed : Script → Cell → List Entry → Type 0
Claimed s c past = HomedIn s c past × (KnownLearnt c past × (Numbered s c past × (AreBooted s c past × (Truthful s c past × (DueFacts s c past × AcquaintedFacts s c past)))))

claimed_kept : (s : Script) → IsKept (Claimed s)
claimed_kept s c past x so h = (homed_kept s c past x so h.0, (learnt_kept c past x so h.1.0, (numbered_kept s c past x so h.1.1.0, (booted_kept s c past x so h.1.1.1.0, (truthful_kept s c past x so h.1.1.1.1.0, (due_kept s c past x so h.1.1.1.1.1.0, acquainted_kept s c past x so h.1.1.1.1.1.1))))))

claims_behind : (s : Script) (c : Cell) (e : Entry) (past : List Entry) → Claimed s c (e ∷ past) → Each (IfCall (IsNow c.clients)) e.sent → Each (IfCall (TakesTurn (e ∷ past))) e.sent → Each (IfCall (KnowsIt s (e ∷ past))) e.sent → Each (IfSeek (IsOwnQuestion s (e ∷ past))) e.sent → EachSent (IsOwnCall s) (e ∷ past) e.sent
claims_behind s c e past h now turns knows asks =
    let K : KnownAsked s c (e ∷ past) = h.0.0.0.0.0.0 in
    let told : sent_of (e ∷ past) ≡ c.sent = K.0.hears.told in
    let each : (P : Message → Type 0) → Each P c.sent → Each P (sent_of (e ∷ past)) = λ P. subst (Each P) (sym told) in
    let new : (P : Message → Type 0) → Each P c.sent → Each P e.sent = λ P x. (each_front P (sent_of past) e.sent (each P x)).1 in
    claims s K.0.keys.callees c.clients (e ∷ past) e.sent (record {
      all = each (IfCall (KnownBy K.0.keys.callees c.clients)) K.0.keys.calls;
      upto = each (IfSeek (IsUpToLast c.clients)) K.1.upto;
      acts = K.1.acts;
      users = K.1.user;
      epochs = h.1.1.0.0.1.1;
      numbers = λ j. subst (IsNumbered j (c.clients j)) (sym told) (h.1.1.0.1 j);
      asked = λ j act r. is_asked s c (e ∷ past) j act h.0 r;
    }) (record {
      ones = new (IfCall (IsOne (sent_of (e ∷ past)))) (subst (λ (ms : List Message). Each (IfCall (IsOne ms)) c.sent) (sym told) K.1.ones);
      known = new (IfCall (KnownBy K.0.keys.callees c.clients)) K.0.keys.calls;
      homes = new (IfCall (IsHome s)) h.0.0.1.1;
      boots = new (IfCall (IsToBegun (e ∷ past))) h.1.0.1.calls;
      now = now;
      turns = turns;
      knows = knows;
      questions = asks;
    })

-- what the entry asks the location database
asks_by : (past : List Entry) (ms : List Message) (e : Entry) → EachSent IsOwn (e ∷ past) ms → AreBy e.actor ms
asks_by past [] e h = tt
asks_by past (m ∷ ms) e h = (h.0.0, asks_by past ms e h.1)

around_now : (s : Script) (c : Cell) (past : List Entry) → Claimed s c past → AroundNow s c past
around_now s c past h =
    let K : KnownAsked s c past = h.0.0.0.0.0.0 in
    record { asked = K; truthful = h.1.1.1.1.0; due = h.1.1.1.1.1.0; boots = λ j. (h.1.1.1.1.1.1.1 j).knows; numbers = λ j. subst (IsNumbered j (c.clients j)) (sym K.0.hears.told) (h.1.1.0.1 j); epochs = h.1.1.0.0.1.1 }

claims_now : (s : Script) (c : Cell) (past : List Entry) (x : Input) → IsSoundLoc c.loc.state → Claimed s c past → EachSent (IsOwnCall s) ((moved c x).entry ∷ past) (moved c x).entry.sent
claims_now s c past x so k =
    let K : KnownAsked s c past = k.0.0.0.0.0.0 in
    let behind : Claimed s (moved c x).cell ((moved c x).entry ∷ past) = claimed_kept s c past x so k in
    let turns = each_moved (Numbered s) TurnsNow (turn_moves s) c past x so k.1.1.0 in
    claims_behind s (moved c x).cell (moved c x).entry past behind (each_moved (KnownAsked s) AsksNow (asks_moves s) c past x so K) turns.0 (booted_now s c past x so k.1.1.1.0)
    (own_questions s (moved c x).cell ((moved c x).entry ∷ past) (moved c x).entry.actor (moved c x).entry.sent (asks_by past (moved c x).entry.sent (moved c x).entry (each_moved (Posted s) (OwnStep s) (own_moves s) c past x so k.0.0.0.0.0)) (around_now s (moved c x).cell ((moved c x).entry ∷ past) behind) (each_moved (KnownAsked s) AskStep (seeks_moves s) c past x so K) turns.1)

pub run_claims : CallsAreOwn
run_claims s h end r =
    run_each (Claimed s) (λ past e. EachSent (IsOwnCall s) (e ∷ past) e.sent) (claimed_kept s) (claims_now s) r.inputs s (set_up_entry s ∷ []) h end (homed_first s, (learnt_first s, (numbered_first s, (booted_first s, (truthful_first s, (due_first s, acquainted_first s)))))) r.leads
