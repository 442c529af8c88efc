-- Each answer of a run has its cause, however many servers a cell has: where it is a reply, that is what the ideal cell made of the call.
use Rattle.law_legal.proofs.ClientCallsInTurn.{KnownBy, callee_is}
use Rattle.spec_history.specs.declared.lines.Line.{Line}
use Rattle.spec_history.specs.declared.lines.Line.TheVariants as lines
use Rattle.spec_history.specs.declared.scripts.Script.{Script}
use Rattle.spec_ideal.specs.Operations.{Result, changes}
use Rattle.law_legal.proofs.ClientCallsAtHome.{IsHome, IsServer}
use Rattle.law_legal.proofs.ClientSent.{called_one, each_front, given_each, older_each}
use Rattle.law_legal.proofs.BaseLaws.{Each, IfCall, IfReply, some_of}
use Rattle.law_legal.proofs.ClientReplyCaused.{IsOfCallee, of_callee, ran_one}
use Rattle.law_legal.proofs.VolumeChanges.{run_each}
use Rattle.law_legal.proofs.ActIsDue.{run_due}
use Rattle.law_legal.proofs.BaseWords.{IsOne}
use Rattle.law_legal.proofs.VolumesAreIdeal.{of_this}
use Rattle.law_legal.proofs.CallKeysOnce.{IsKnown}
use Rattle.law_legal.proofs.ActCallsInRuns.{KnownAsked}
use Rattle.law_legal.proofs.RunLinesInPlace.{run_placed}
use Rattle.law_legal.proofs.ServerTells.{IsTold, Tells, key_more}
use Rattle.law_legal.proofs.ServerTellsTruth.{Truthful, truthful_first, truthful_kept}
use Rattle.law_legal.specs.ClientParts.{AnswersAreGood, IsDue, IsDueCode, IsGivenAtOnce, IsReplied, WasReplied, IsLeft, IsUntold}
use Rattle.spec_rows.specs.Going.{asked, locates, next}
use Rattle.spec_history.specs.declared.acts.Operand.{Operand}
use Rattle.law_legal.specs.Cells.{IsOfCell}
use Rattle.law_legal.specs.Ideal.{change_in, set_up_entry, user_of, call_under, callee_under}
use Rattle.law_legal.specs.Legal.{Cause, GoodCode, HasChange, GivesNothingUp, IsCaused, IsInPlace, IsOfClient, IsResult, ChangeIsTold as IsToldOf, ideal_answer, as_asked, WasRefused, IsGone, IsOperandOf, IsUnheardOf, MayAsk}
use Rattle.law_legal.specs.Parts.{EachEntry, EachLine}
use Rattle.law_legal.specs.Past.{CalledSince, IsReply, Sends, answered_key, called_key, code_told, given_message, lines_of, sent_of}
use Rattle.law_legal.specs.ServerParts.{IsCodeGood}
use Rattle.law_legal.specs.Legal.{GivesAllBack, GivesSomeBack, IsKind}
use Rattle.law_legal.proofs.ClientReturnsAll.{IsReturned, ReturnedIn, run_returned}
use Rattle.afs_num.specs.declared.calls.FsCall.{FsCall}
use Rattle.afs_num.specs.declared.histories.Actor.{Actor}
use Rattle.afs_num.specs.declared.histories.Actor.TheVariants as actors
use Rattle.afs_num.specs.declared.messages.Call.TheVariants as ask
use Rattle.afs_num.specs.declared.messages.Carried.TheVariants as carried
use Rattle.afs_num.specs.declared.messages.Message.{Message}
use Rattle.afs_num.specs.declared.types.Code.{Code}
use Rattle.afs_num.specs.declared.types.Head.{Head}
use Rattle.afs_num.specs.declared.types.Key.{Key}
use Rattle.afs_num.specs.declared.types.Node.{Node}
use Rattle.afs_num.specs.declared.types.Node.TheVariants.{Admin, Client, Loc, Server}
use Rattle.spec_rows.specs.Going.{ClientState, Going}
use Rattle.spec_rows.specs.Runs.{Cell, Entry, start}
use Rattle.spec_model.specs.Calls.{key_of}
use Rattle.std.proofs.Common.{◌⊎◌, ◌≡◌, ℕ, ℤ, inl, inr, List, [], ◌∷◌, ◌++◌, Option, Some, sym, ap, subst, ◌∙◌}

-- ---- a reply to a client's call is of a server

pub each_both : (P Q : Message → Type 0) (ms : List Message) → Each P ms → Each Q ms → Each (λ m. P m × Q m) ms
each_both P Q [] h k = tt
each_both P Q (m ∷ ms) h k = ((h.0, k.0), each_both P Q ms h.1 k.1)

-- a message that carries this call under this key, of which T holds
pub record HasSent (T : Message → Type 0) (k : Key) (user : List ℕ) (call : FsCall) : Type 0 where
  pub message : Message
  pub key : called_key message.head ≡ k
  pub carries : message.carried ≡ carried.Call user (ask.File call)
  pub holds : T message

sent_call : (T : Message → Type 0) (k : Key) (user : List ℕ) (call : FsCall) (ms : List Message) → Sends k user call ms → Each T ms → HasSent T k user call
sent_call T k user call [] x h = absurd x
sent_call T k user call (m ∷ ms) (inl x) h = record { message = m; key = x.0; carries = x.1; holds = h.0 }
sent_call T k user call (m ∷ ms) (inr x) h = sent_call T k user call ms x h.1

pub since_call : (T : Message → Type 0) (k : Key) (user : List ℕ) (call : FsCall) (past : List Entry) → CalledSince k user call past → Each T (sent_of past) → HasSent T k user call
since_call T k user call [] x h = absurd x
since_call T k user call (e ∷ past) (inl x) h = sent_call T k user call e.sent x.1 (each_front T (sent_of past) e.sent h).1
since_call T k user call (e ∷ past) (inr x) h = since_call T k user call past x.1 (each_front T (sent_of past) e.sent h).0

-- the callee of a key under which a client sent a call
pub called_server : (s : Script) (callees : Key → Node) (clients : ℕ → ClientState) (j : ℕ) (k : Key) (user : List ℕ) (call : FsCall) (past : List Entry) → k.node ≡ Client j → CalledSince k user call past → Each (IfCall (λ h u f. IsKnown callees clients h.to (key_of h))) (sent_of past) → Each (IfCall (IsHome s)) (sent_of past) → IsServer (callees k)
called_server s callees clients j k user call past node called known homes =
    let K : Head → List ℕ → FsCall → Type 0 = λ h u f. IsKnown callees clients h.to (key_of h) in
    let x : HasSent (λ m. IfCall K m × IfCall (IsHome s) m) k user call = since_call (λ m. IfCall K m × IfCall (IsHome s) m) k user call past called (each_both (IfCall K) (IfCall (IsHome s)) (sent_of past) known homes) in
    let head : Head = x.message.head in
    let from : head.from ≡ Client j = ap (λ (q : Key). q.node) x.key ∙ node in
    let to : head.to ≡ callees k = (of_this K j head x.message.carried user call from x.carries x.holds.0).called ∙ ap callees x.key in
    subst IsServer to (of_this (IsHome s) j head x.message.carried user call from x.carries x.holds.1).server

-- ---- the cause

change_front : (k : Key) (own o : List Line) → HasChange k o → HasChange k (own ++ o)
change_front k [] o h = h
change_front k (l ∷ own) o h = key_more k (change_in l) (HasChange k (own ++ o)) (change_front k own o h)

told_front : (k : Key) (r : Option Result) (own o : List Line) → IsToldOf k r o → IsToldOf k r (own ++ o)
told_front k (Some (changes es shown)) own o h = change_front k own o h
told_front k r own o h = tt

result_front : (server : Node) (code : ℤ) (r : Option Result) (k : Key) (ran own o : List Line) → IsResult server code r k ran o → IsResult server code r k ran (own ++ o)
result_front server code r k ran own o (inl h) = inl (h.0, told_front k r own o h.1)
result_front server code r k ran own o (inr h) = inr h

-- of a reply with this code to a call that the act asks
pub cause_by : (s : Script) (c : Cell) (past : List Entry) (own : List Line) (j : ℕ) (act : Going) (m : Message) (code : ℤ) (asks : FsCall) → Truthful s c past → given_message own (sent_of past) ≡ Some m → IsReply m → code_told m.carried ≡ Some code → m.head.to ≡ Client j → callee_under (answered_key m.head) (sent_of past) ≡ Some m.head.from → CalledSince (answered_key m.head) (user_of s (Client j)) asks past → as_asked asks ≡ asked act
    → (cause : Cause m code (asked act) past own) × (cause.user ≡ user_of s (Client j))
cause_by s c past own j act m code asks h by is to_code to under called asked_for =
    let a : KnownAsked s c past = h.0.0.0 in
    let k : Key = answered_key m.head in
    let told : sent_of past ≡ c.sent = a.0.hears.told in
    let each : (T : Message → Type 0) → Each T c.sent → Each T (sent_of past) = λ T all. subst (Each T) (sym told) all in
    let known : Each (IfCall (KnownBy a.0.keys.callees c.clients)) (sent_of past) = each (IfCall (KnownBy a.0.keys.callees c.clients)) a.0.keys.calls in
    let asked_under : call_under k (sent_of past) ≡ Some (user_of s (Client j), asks) = ap (call_under k) told ∙ called_one j k (user_of s (Client j)) asks c.sent past to called (each (IfCall (IsOne c.sent)) a.1.ones) in
    let is_from : m.head.from ≡ a.0.keys.callees k = some_of m.head.from (a.0.keys.callees k) (sym under ∙ callee_is a.0.keys.callees c.clients j k (user_of s (Client j), asks) (sent_of past) to asked_under known) in
    let from : IsServer m.head.from =
    subst IsServer (sym is_from)
    (called_server s a.0.keys.callees c.clients j k (user_of s (Client j)) asks past to called (each _ a.0.keys.calls) (each (IfCall (IsHome s)) h.0.1.1.1)) in
    let t : Tells m past = given_each (IsTold past) own (sent_of past) m by (each (IsTold past) h.1.sends) from.0 j from.1 to is.1 in
    let one : Some (t.user, t.call) ≡ Some (user_of s (Client j), asks) =
    sym (ran_one past j m t.ran t.user t.call t.carries to c.sent a.1.ones told) ∙ called_one j k (user_of s (Client j)) asks c.sent past to called (each (IfCall (IsOne c.sent)) a.1.ones) in
    let same : (t.user, t.call) ≡ (user_of s (Client j), asks) = some_of (t.user, t.call) (user_of s (Client j), asks) one in
    let call : t.call ≡ asks = ap (λ (p : List ℕ × FsCall). p.1) same in
    let codes : t.code ≡ code = some_of t.code code (sym t.told ∙ to_code) in (
      record {
        is_reply = is;
        told = to_code;
        ran = t.ran;
        user = t.user;
        call = t.call;
        carries = t.carries;
        asks = ap as_asked call ∙ asked_for;
        result = result_front m.head.from code (ideal_answer t.user t.call t.ran.older) k t.ran.at.lines own (lines_of past) (subst (λ (x : ℤ). IsResult m.head.from x (ideal_answer t.user t.call t.ran.older) k t.ran.at.lines (lines_of past)) codes t.result);
      },
      ap (λ (p : List ℕ × FsCall). p.0) same,
    )

caused_by : (s : Script) (c : Cell) (past : List Entry) (own : List Line) (j : ℕ) (act : Going) (code : ℤ) → Truthful s c past → IsReplied s (Client j) act code past own → IsCaused s (Client j) act code past own
caused_by s c past own j act code h q =
    let a : KnownAsked s c past = h.0.0.0 in
    let m : Message = q.reply in
    let k : Key = answered_key m.head in
    let told : sent_of past ≡ c.sent = a.0.hears.told in
    let each : (T : Message → Type 0) → Each T c.sent → Each T (sent_of past) = λ T all. subst (Each T) (sym told) all in
    let from : IsServer m.head.from = q.from in
    let t : Tells m past = given_each (IsTold past) own (sent_of past) m q.by (each (IsTold past) h.1.sends) from.0 j from.1 q.to q.is_reply.1 in
    let one : Some (t.user, t.call) ≡ Some (user_of s (Client j), q.call) =
    sym (ran_one past j m t.ran t.user t.call t.carries q.to c.sent a.1.ones told) ∙ called_one j k (user_of s (Client j)) q.call c.sent past q.to q.called (each (IfCall (IsOne c.sent)) a.1.ones) in
    let same : (t.user, t.call) ≡ (user_of s (Client j), q.call) = some_of (t.user, t.call) (user_of s (Client j), q.call) one in
    let call : t.call ≡ q.call = ap (λ (p : List ℕ × FsCall). p.1) same in
    let codes : t.code ≡ code = some_of t.code code (sym t.told ∙ q.told) in
    record {
      reply = m;
      by = q.by;
      to = q.to;
      cause = record {
        is_reply = q.is_reply;
        told = q.told;
        ran = t.ran;
        user = t.user;
        call = t.call;
        carries = t.carries;
        asks = ap as_asked call ∙ q.asks;
        result = result_front m.head.from code (ideal_answer t.user t.call t.ran.older) k t.ran.at.lines own (lines_of past) (subst (λ (x : ℤ). IsResult m.head.from x (ideal_answer t.user t.call t.ran.older) k t.ran.at.lines (lines_of past)) codes t.result);
      };
      own_user = ap (λ (p : List ℕ × FsCall). p.0) same;
      before = q.before;
      called = subst (λ (p : List ℕ × FsCall). CalledSince k p.0 p.1 past) (sym same) q.called;
      last = q.last;
      ends = q.ends (subst (λ (f : FsCall). IsKind f m.carried) call t.kind);
    }

-- the refusal of a server, in an entry before
refused_by : (s : Script) (c : Cell) (past : List Entry) (own : List Line) (j : ℕ) (act : Going) (code : ℤ) → Truthful s c past → WasReplied s (Client j) act code past → WasRefused s (Client j) act code past own
refused_by s c past own j act code h q =
    let a : KnownAsked s c past = h.0.0.0 in
    let m : Message = q.reply in
    let k : Key = answered_key m.head in
    let told : sent_of past ≡ c.sent = a.0.hears.told in
    let each : (T : Message → Type 0) → Each T c.sent → Each T (sent_of q.older) = λ T all. older_each T q.newer q.at q.older (subst (λ (p : List Entry). Each T (sent_of p)) q.split (subst (Each T) (sym told) all)) in
    let t : Tells m past = given_each (IsTold past) q.at.lines (sent_of q.older) m q.by (each (IsTold past) h.1.sends) q.from.0 j q.from.1 q.to q.is_reply.1 in
    let one : Some (t.user, t.call) ≡ Some (user_of s (Client j), q.call) =
    sym (ran_one past j m t.ran t.user t.call t.carries q.to c.sent a.1.ones told) ∙ called_one j k (user_of s (Client j)) q.call c.sent q.older q.to q.called (each (IfCall (IsOne c.sent)) a.1.ones) in
    let same : (t.user, t.call) ≡ (user_of s (Client j), q.call) = some_of (t.user, t.call) (user_of s (Client j), q.call) one in
    let call : t.call ≡ q.call = ap (λ (p : List ℕ × FsCall). p.1) same in
    let codes : t.code ≡ code = some_of t.code code (sym t.told ∙ q.told) in
    record {
      gone = q.gone;
      newer = q.newer;
      at = q.at;
      older = q.older;
      split = q.split;
      within = q.within;
      actor = q.actor;
      reply = m;
      by = q.by;
      to = q.to;
      cause = record {
        is_reply = q.is_reply;
        told = q.told;
        ran = t.ran;
        user = t.user;
        call = t.call;
        carries = t.carries;
        asks = ap as_asked call ∙ q.asks;
        result = result_front m.head.from code (ideal_answer t.user t.call t.ran.older) k t.ran.at.lines own (lines_of past) (subst (λ (x : ℤ). IsResult m.head.from x (ideal_answer t.user t.call t.ran.older) k t.ran.at.lines (lines_of past)) codes t.result);
      };
      own_user = ap (λ (p : List ℕ × FsCall). p.0) same;
      called = subst (λ (p : List ℕ × FsCall). CalledSince k p.0 p.1 q.older) (sym same) q.called;
    }

gone_by : (s : Script) (c : Cell) (past : List Entry) (own : List Line) (j : ℕ) (act : Going) (code : ℤ) → Truthful s c past → IsLeft s (Client j) act code past own → IsGone s (Client j) act code past own
gone_by s c past own j act code h q = record { left = q.left; is = q.is; refused = refused_by s c past own j act q.left h q.replied; operand = q.operand; its = q.its; heard = q.heard }

pub may_ask : (s : Script) (c : Cell) (past : List Entry) (own : List Line) (j : ℕ) (act : Going) (o : Operand) → Truthful s c past → (next act ≡ locates o) ⊎ ((left : ℤ) × (WasReplied s (Client j) act left past × IsOperandOf act o)) → MayAsk s (Client j) act o past own
may_ask s c past own j act o h (inl needs) = inl needs
may_ask s c past own j act o h (inr q) = inr (q.0, (refused_by s c past own j act q.0 h q.1.0, q.1.1))

unheard_by : (s : Script) (c : Cell) (past : List Entry) (own : List Line) (j : ℕ) (act : Going) (code : ℤ) → Truthful s c past → IsUntold s (Client j) act code past own → IsUnheardOf s (Client j) act code past own
unheard_by s c past own j act code h q = record { is = q.is; epoch = q.epoch; number = q.number; third = q.third; before = q.before; operand = q.operand; called = q.called; why = may_ask s c past own j act q.operand h q.why }

-- ---- each line

nothing_given : (s : Script) (c : Node) (act : Going) (code : ℤ) (own : List Line) → IsOfCell s → IsGivenAtOnce s c act code own → GivesNothingUp c act code own
nothing_given s c act code own cell q = record { is = q.is; by = q.by; begun = q.begun; none = q.none cell }

good_code : (s : Script) (c : Cell) (past : List Entry) (own : List Line) (j : ℕ) (code : Code) → IsOfCell s → Truthful s c past → GivesAllBack s (Client j) code.0 past own × GivesSomeBack s (Client j) past own → IsDueCode s (Client j) code past own → GoodCode s (Client j) code past own
good_code s c past own j code cell h g d = record {
  act = d.act;
  runs = d.runs;
  cause = elim d.cause [
    | inl q ↦ inl (caused_by s c past own j d.act code.0 h q)
    | inr x ↦ inr (elim x [
      | inl done ↦ inl done
      | inr y ↦ inr (elim y [
        | inl dead ↦ inl dead
        | inr z ↦ inr (elim z [
          | inl none ↦ inl (nothing_given s (Client j) d.act code.0 own cell none)
          | inr u ↦ inr (elim u [ inl none ↦ inl none | inr v ↦ inr (elim v [ inl dead' ↦ inl (unheard_by s c past own j d.act code.0 h dead') | inr gone ↦ inr (gone_by s c past own j d.act code.0 h gone) ]) ])
        ])
      ])
    ])
  ];
  gives = g.0;
  some = g.1;
}

-- it stands in an entry of its client
-- the lines of an entry of a client give all back
abbrev AreReturned : Script → Actor → List Entry → List Line → List Line → Type 0
AreReturned s who past own ls = (j : ℕ) → who ≡ actors.Node (Client j) → EachLine (IsReturned s) who past own ls

good_by : (s : Script) (c : Cell) (past : List Entry) (own next : List Line) (who : Actor) (n : Node) (code : Code) → IsOfCell s → Truthful s c past → IsOfClient who n → ((j : ℕ) → who ≡ actors.Node (Client j) → IsReturned s who (lines.Answer n code) past own next) → IsDueCode s n code past own → GoodCode s n code past own
good_by s c past own next who (Client j) code cell h of g d = good_code s c past own j code cell h (g j of) d
good_by s c past own next who (Server i) code cell h of g d = absurd of
good_by s c past own next who (Admin i) code cell h of g d = absurd of
good_by s c past own next who Loc code cell h of g d = absurd of

good_line : (s : Script) (c : Cell) (past : List Entry) (own next : List Line) (who : Actor) (l : Line) → IsOfCell s → Truthful s c past → IsInPlace s who l past own next → ((j : ℕ) → who ≡ actors.Node (Client j) → IsReturned s who l past own next) → IsDue s who l past own next → IsCodeGood s who l past own next
good_line s c past own next who (lines.Answer n code) cell h place g due = good_by s c past own next who n code cell h place.0 g due
good_line s c past own next who l cell h place g due = tt

good_lines : (s : Script) (c : Cell) (past : List Entry) (own ls : List Line) (who : Actor) → IsOfCell s → Truthful s c past → EachLine (IsInPlace s) who past own ls → AreReturned s who past own ls → EachLine (IsDue s) who past own ls → EachLine (IsCodeGood s) who past own ls
good_lines s c past own [] who cell h place g due = tt
good_lines s c past own (l ∷ ls) who cell h place g due = (good_line s c past own ls who l cell h place.0 (λ j z. (g j z).0) due.0, good_lines s c past (l ∷ own) ls who cell h place.1 (λ j z. (g j z).1) due.1)

-- ---- the law

-- what holds before an entry of a run
abbrev TrueBefore : Script → List Entry → Entry → Type 0
TrueBefore s past e = (c : Cell) × Truthful s c past

codes_from : (s : Script) (past es : List Entry) → IsOfCell s → EachEntry (λ before e. EachLine (IsInPlace s) e.actor before [] e.lines) past es → EachEntry (ReturnedIn s) past es → EachEntry (λ before e. EachLine (IsDue s) e.actor before [] e.lines) past es → EachEntry (TrueBefore s) past es → EachEntry (λ before e. EachLine (IsCodeGood s) e.actor before [] e.lines) past es
codes_from s past [] cell place back due h = tt
codes_from s past (e ∷ es) cell place back due h = (good_lines s h.0.0 past [] e.lines e.actor cell h.0.1 place.0 (back.0 cell) due.0, codes_from s (e ∷ past) es cell place.1 back.1 due.1 h.1)

pub run_codes : AnswersAreGood
run_codes s h end cell r =
    codes_from s (set_up_entry s ∷ []) h cell (run_placed s h end r) (run_returned s h end r) (run_due s h end r) (run_each (Truthful s) (TrueBefore s) (truthful_kept s) (λ c past x so k. (c, k)) r.inputs s (set_up_entry s ∷ []) h end (truthful_first s) r.leads)
