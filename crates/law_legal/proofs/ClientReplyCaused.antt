-- The reply to the call for which a client waits is of a server, and has its cause in the entry that ran the call, however many servers a
-- cell has.
use Rattle.spec_history.specs.declared.scripts.Script.{Script}
use Rattle.law_legal.proofs.ActLines.{last_key}
use Rattle.law_legal.proofs.ClientCallsAtHome.{IsServer, callee_server}
use Rattle.law_legal.proofs.BaseLaws.{ByClient, Each, IfCall, IfReply, OfCall, OfClient, OfReply, by_client, each_at, some_of}
use Rattle.law_legal.proofs.CallKeysOnce.{IsKnown, by_key}
use Rattle.law_legal.specs.Laws.{RepliesAreCaused}
use Rattle.law_legal.proofs.BaseWords.{IsOne}
use Rattle.law_legal.proofs.ServerRefusesForGood.{IsFirm}
use Rattle.law_legal.proofs.RunWalk.{run_keeps}
use Rattle.law_legal.proofs.ActNeedsNext.{asks_is}
use Rattle.law_legal.proofs.ActCallsInRuns.{KnownAsked}
use Rattle.law_legal.proofs.ServerTells.{IsTold, Tells}
use Rattle.law_legal.proofs.ServerTellsTruth.{Truthful, truthful_first, truthful_kept}
use Rattle.law_legal.proofs.ClientSent.{given_each, older_each}
use Rattle.law_legal.specs.Ideal.{call_under, set_up_entry, user_of}
use Rattle.law_legal.specs.Legal.{Cause, as_asked}
use Rattle.law_legal.specs.Once.{past_of}
use Rattle.law_legal.specs.Past.{HasCode, IsReply, Ran, answered_key, sent_of}
use Rattle.afs_num.specs.declared.calls.FsCall.{FsCall}
use Rattle.afs_num.specs.declared.messages.Call.TheVariants as ask
use Rattle.afs_num.specs.declared.messages.Carried.{Carried}
use Rattle.afs_num.specs.declared.messages.Carried.TheVariants as carried
use Rattle.afs_num.specs.declared.messages.Message.{Message}
use Rattle.afs_num.specs.declared.types.Head.{Head}
use Rattle.afs_num.specs.declared.types.Key.{Key}
use Rattle.afs_num.specs.declared.types.Node.{Node}
use Rattle.afs_num.specs.declared.types.Node.TheVariants.{Client, Server}
use Rattle.spec_rows.specs.ClientRow.{call_of}
use Rattle.spec_rows.specs.Going.{ClientState, Going, asked}
use Rattle.spec_rows.specs.Runs.{Cell, Entry, RunsTo, message_at, start}
use Rattle.std.proofs.Common.{◌≡◌, ℕ, ℤ, List, ◌∷◌, ◌++◌, [], Some, sym, ap, subst, ◌∙◌}

-- the call that an entry was given is the one under its key
pub ran_one : (past : List Entry) (j : ℕ) (m : Message) (ran : Ran m.head past) (user : List ℕ) (call : FsCall) → ran.message.carried ≡ carried.Call user (ask.File call) → m.head.to ≡ Client j → (sent : List Message) → Each (IfCall (IsOne sent)) sent → sent_of past ≡ sent → call_under (answered_key m.head) sent ≡ Some (user, call)
ran_one past j m ran user call is to sent ones told =
    let from : ran.message.head.from ≡ Client j = ap (λ (k : Key). k.node) ran.key ∙ to in
    let all : Each (IfCall (IsOne sent)) (sent_of (ran.newer ++ (ran.at ∷ ran.older))) = subst (λ (p : List Entry). Each (IfCall (IsOne sent)) (sent_of p)) ran.split (subst (Each (IfCall (IsOne sent))) (sym told) ones) in
    let its : IfCall (IsOne sent) ran.message = given_each (IfCall (IsOne sent)) ran.at.lines (sent_of ran.older) ran.message ran.given (older_each (IfCall (IsOne sent)) ran.newer ran.at ran.older all) in
    let one : IsOne sent ran.message.head user call = by_client j ran.message.head.from (IsOne sent ran.message.head user call) from (subst (λ (x : Carried). OfCall (ByClient (IsOne sent)) ran.message.head x) is its) in
    subst (λ (k : Key). call_under k sent ≡ Some (user, call)) ran.key one

pub is_reply : (head : Head) (x : Carried) → HasCode x → IsFirm head x → IsReply (record { head = head; carried = x })
is_reply head (carried.Refusal code) is firm = (firm.0, tt)
is_reply head (carried.Reply reply) is firm = (firm, tt)
is_reply head (carried.Call user call) is firm = absurd is
is_reply head carried.Notice is firm = absurd is

pub key_is : (j : ℕ) (head : Head) (e n : ℕ) → head.to ≡ Client j → head.epoch ≡ e → head.number ≡ n → answered_key head ≡ record { node = Client j; epoch = e; number = n }
key_is j head e n to epoch number =
    ap (λ (q : Node). record { node = q; epoch = head.epoch; number = head.number }) to
    ∙ (ap (λ (x : ℕ). record { node = Client j; epoch = x; number = head.number }) epoch ∙ ap (λ (x : ℕ). record { node = Client j; epoch = e; number = x }) number)

-- of any entries that a run led to
pub caused_in : (s : Script) (c : Cell) (past : List Entry) (i j place : ℕ) (m : Message) (act : Going) → Truthful s c past → message_at c.sent place ≡ Some m → HasCode m.carried → m.head.from ≡ Server i → m.head.to ≡ Client j
    → (c.clients j).running ≡ Some act → m.head.epoch ≡ (c.clients j).epoch → m.head.number ≡ (c.clients j).last → (code : ℤ) × ((cause : Cause m code (asked act) past []) × (cause.user ≡ user_of s (Client j)))
caused_in s c past i j place m act h at code from to runs epoch number =
    let a : KnownAsked s c past = h.0.0.0 in
    let t : Tells m past = each_at (IsTold past) c.sent place m at h.1.sends i j from to code in
    let key : answered_key m.head ≡ last_key j (c.clients j) = key_is j m.head (c.clients j).epoch (c.clients j).last to epoch number in
    let same : Some (t.user, t.call) ≡ Some ((c.clients j).user, call_of (c.clients j) act) = sym (ran_one past j m t.ran t.user t.call t.carries to c.sent a.1.ones a.0.hears.told) ∙ (ap (λ (k : Key). call_under k c.sent) key ∙ a.1.last j act runs) in
    let both : (t.user, t.call) ≡ ((c.clients j).user, call_of (c.clients j) act) = some_of (t.user, t.call) ((c.clients j).user, call_of (c.clients j) act) same in (
      t.code,
      (
        record {
          is_reply = is_reply m.head m.carried code (each_at (λ (x : Message). IsFirm x.head x.carried) c.sent place m at h.0.1.0.0.1);
          told = t.told;
          ran = t.ran;
          user = t.user;
          call = t.call;
          carries = t.carries;
          asks = ap (λ (p : List ℕ × FsCall). as_asked p.1) both ∙ asks_is (c.clients j).gifts act;
          result = t.result;
        },
        ap (λ (p : List ℕ × FsCall). p.0) both ∙ a.1.user j,
      ),
    )

-- ---- who sends it

pub code_in : (j : ℕ) (to : Node) (X : Type 0) (x : Carried) → HasCode x → to ≡ Client j → OfReply (OfClient to X) x → X
code_in j to X (carried.Refusal code) is e h = by_client j to X e h
code_in j to X (carried.Reply reply) is e h = by_client j to X e h
code_in j to X (carried.Call user call) is e h = absurd is
code_in j to X carried.Notice is e h = absurd is

-- a server's reply to a key is of the callee of that
abbrev pub IsOfCallee : (Key → Node) → (ℕ → ClientState) → Message → Type 0
IsOfCallee callees clients r = by_key (IsKnown callees clients) r.head

pub of_callee : (callees : Key → Node) (clients : ℕ → ClientState) (j : ℕ) (m : Message) → IfReply (IsOfCallee callees clients) m → HasCode m.carried → m.head.to ≡ Client j → (i : ℕ) → m.head.from ≡ Server i → m.head.from ≡ callees (answered_key m.head)
of_callee callees clients j m h code to i from = (code_in j m.head.to (IsOfCallee callees clients m) m.carried code to h i from).called

-- ---- the law

pub truthful_at : (s : Script) (h : List Entry) (end : Cell) → RunsTo h s end → Truthful s end (past_of (set_up_entry s ∷ []) h)
truthful_at s h end r = run_keeps (Truthful s) (truthful_kept s) r.inputs s (set_up_entry s ∷ []) h end (truthful_first s) r.leads

pub run_caused : RepliesAreCaused
run_caused s h end r i j place m act at code from to runs epoch number =
    let past : List Entry = past_of (set_up_entry s ∷ []) h in
    let t : Truthful s end past = truthful_at s h end r in
    caused_in s end past i j place m act t at code from to runs epoch number
