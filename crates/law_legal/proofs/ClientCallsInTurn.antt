-- A client makes a call where it begins an act, or is given the answer to the call before; else it sends that again. However many servers a cell has.
use Rattle.afs_num.specs.declared.location_calls.LocCall.{LocCall}
use Rattle.law_legal.proofs.DatabaseKeeps.{loc_uncalled}
use Rattle.spec_history.specs.declared.scripts.Script.{Script}
use Rattle.law_legal.proofs.ActLines.{Acts, IsTheCall, last_key, who_at, IfSeek, IsTheSeek, IsOwnSeek}
use Rattle.law_legal.proofs.ActSteps.{begins_acts, given_acts, waits_acts, missed_acts}
use Rattle.law_legal.proofs.ClientCallsOfAct.{its_last}
use Rattle.law_legal.proofs.BaseLaws.{ByClient, Each, IfCall, OfCall, a_key, both, by_client, each_map, if_call, same_key-true, same_node-true, some_of}
use Rattle.law_legal.proofs.ClientCalls.{IsUncalled, uncalled_any}
use Rattle.law_legal.proofs.ActFollows.{more_not, none_runs}
use Rattle.law_legal.proofs.ServerHearsInRuns.{client_given}
use Rattle.law_legal.proofs.CallKeysOnce.{IsKnown, any_told, by_key}
use Rattle.law_legal.proofs.RunsKnown.{served_uncalled, started_uncalled, timed_uncalled, woken_uncalled}
use Rattle.law_legal.proofs.RunWalk.{EachMove}
use Rattle.law_legal.proofs.ClientCallsNumbered.{IsNumbered, Numbered}
use Rattle.law_legal.proofs.ActCallsInRuns.{quietly, KnownAsked, same_key_at, the_calls, sought_acts_in, next_uncalled}
use Rattle.law_legal.proofs.ActCalls.{of_client, IsUpToLast, if_seek}
use Rattle.law_legal.proofs.ActBegins.{row_begun}
use Rattle.law_legal.proofs.ClientTakesReply.{is_its}
use Rattle.law_legal.specs.Ideal.{call_in, call_under, callee_under}
use Rattle.law_legal.specs.Past as questions
use Rattle.afs_num.specs.declared.histories.Actor.TheVariants as actors
use Rattle.law_legal.specs.Legal.{HearsAnswer, IsFileReply, IsInTurn, IsLastCall, IsOfLastCall, IsAskedInTurn}
use Rattle.law_legal.specs.Past.{IsCall, IsUpTo, answered_key, called_key, code_told, has_begun, has_sent, is_called, sent_of, AskedSince, has_called}
use Rattle.spec_model.specs.Calls as pairs
use Rattle.spec_model.specs.FsRows.{call_number}
use Rattle.spec_model.specs.Calls.{Admitted, admitted, key_of}
use Rattle.afs_num.specs.Nodes.{same_node}
use Rattle.afs_num.specs.declared.calls.FsCall.{FsCall}
use Rattle.afs_num.specs.declared.calls.FsCall.TheVariants as calls
use Rattle.afs_num.specs.declared.messages.Call.TheVariants as ask
use Rattle.afs_num.specs.declared.messages.Carried.{Carried}
use Rattle.afs_num.specs.declared.messages.Carried.TheVariants as carried
use Rattle.afs_num.specs.declared.messages.Message.{Message}
use Rattle.afs_num.specs.declared.messages.Received.TheVariants.{Whole}
use Rattle.afs_num.specs.declared.messages.Reply.TheVariants as tell
use Rattle.afs_num.specs.declared.types.Head.{Head}
use Rattle.afs_num.specs.declared.types.Key.{Key}
use Rattle.afs_num.specs.declared.types.Node.{Node}
use Rattle.afs_num.specs.declared.types.Node.TheVariants.{Client, Server}
use Rattle.spec_rows.specs.ClientRow.{question, admits_call, awaits, breaks, call_of, client_row, counts, hears, is_awaited, opcode_of, runs_carried, timeout_row, whole}
use Rattle.spec_rows.specs.Going.{ClientState, Going, Seek}
use Rattle.law_legal.proofs.RunSteps.{server_moves, server_rises, loc_becomes}
use Rattle.spec_rows.specs.Runs.{Cell, Entry, Moved, begun_by_disk, message_at, user_at}
use Rattle.spec_rows.specs.ServerSteps.{back_timeout_row, server_row, wake_row}
use Rattle.spec_rows.specs.Steps.{Step}
use Rattle.std.proofs.Common.{◌++◌, ◌≡◌, ◌≤◌, ◌<◌, ◌⊎◌, ◌∙◌, ℕ, ℤ, arith, inl, inr, Bool, true, false, cond, List, [], ◌∷◌, Option, Some, None, pos, ap, eqb-true, refl, subst, sym}
use Rattle.std.specs.Prelude.{nat_eq, nat_lt}

-- ---- the callee under a key

abbrev pub KnownBy : (Key → Node) → (ℕ → ClientState) → Head → List ℕ → FsCall → Type 0
KnownBy callees clients head user call = IsKnown callees clients head.to (key_of head)

-- the node to which this was sent is that of its key
sent_to : (callees : Key → Node) (clients : ℕ → ClientState) (n : ℕ) (k : Key) (head : Head) (c : Carried) → k.node ≡ Client n → is_called k head c ≡ true → OfCall (ByClient (KnownBy callees clients)) head c → head.to ≡ callees k
sent_to callees clients n k head (carried.Call user (ask.File call)) node is h =
    let same : called_key head ≡ k = same_key-true (called_key head) k is in
    (by_client n head.from (KnownBy callees clients head user call) (ap (λ (l : Key). l.node) same ∙ node) h).called ∙ ap callees same
sent_to callees clients n k head (carried.Call user (ask.Volume call)) node is h = absurd cc
sent_to callees clients n k head (carried.Call user (ask.Location call)) node is h = absurd cc
sent_to callees clients n k head (carried.Refusal code) node is h = absurd cc
sent_to callees clients n k head (carried.Reply reply) node is h = absurd cc
sent_to callees clients n k head carried.Notice node is h = absurd cc

to_by : (t : Bool) (to q : Node) (o : Option Node) (p x : Option (List ℕ × FsCall)) (y : List ℕ × FsCall) → cond t x p ≡ Some y → (t ≡ true → to ≡ q) → (p ≡ Some y → o ≡ Some q) → cond t (Some to) o ≡ Some q
to_by true to q o p x y e h k = ap Some (h refl)
to_by false to q o p x y e h k = k e

pub callee_is : (callees : Key → Node) (clients : ℕ → ClientState) (n : ℕ) (k : Key) (x : List ℕ × FsCall) (sent : List Message) → k.node ≡ Client n → call_under k sent ≡ Some x → Each (IfCall (KnownBy callees clients)) sent → callee_under k sent ≡ Some (callees k)
callee_is callees clients n k x [] node e h = absurd cc
callee_is callees clients n k x (m ∷ sent) node e h =
    to_by (is_called k m.head m.carried) m.head.to (callees k) (callee_under k sent) (call_under k sent) (call_in m.carried) x e
    (λ t. sent_to callees clients n k m.head m.carried node t h.0)
    (λ y. callee_is callees clients n k x sent node y h.1)

-- ---- of two calls that were sent each the last one

its_call : (k : Key) (head : Head) (x : Carried) → is_called k head x ≡ true → IsCall x × (called_key head ≡ k)
its_call k head (carried.Call user (ask.File call)) e = (tt, same_key-true (called_key head) k e)
its_call k head (carried.Call user (ask.Volume call)) e = absurd cc
its_call k head (carried.Call user (ask.Location call)) e = absurd cc
its_call k head (carried.Refusal code) e = absurd cc
its_call k head (carried.Reply reply) e = absurd cc
its_call k head carried.Notice e = absurd cc

up_by : (t : Bool) (l k : Key) (m : Message) (p q : Option (List ℕ × FsCall)) (z : List ℕ × FsCall) → is_called l m.head m.carried ≡ t → cond t p q ≡ Some z → l.node ≡ k.node → (IsCall m.carried → m.head.from ≡ k.node → IsUpTo m.head.epoch m.head.number k.epoch k.number) → (q ≡ Some z → IsUpTo l.epoch l.number k.epoch k.number) → IsUpTo l.epoch l.number k.epoch k.number
up_by true l k m p q z e h node now w = let its = its_call l m.head m.carried e in subst (λ (i : Key). IsUpTo i.epoch i.number k.epoch k.number) its.1 (now its.0 (ap (λ (i : Key). i.node) its.1 ∙ node))
up_by false l k m p q z e h node now w = w h

-- a call that was sent is none above the last one of its node
called_up : (l k : Key) (z : List ℕ × FsCall) (ms : List Message) → l.node ≡ k.node → call_under l ms ≡ Some z → IsLastCall k ms → IsUpTo l.epoch l.number k.epoch k.number
called_up l k z [] node e h = absurd cc
called_up l k z (m ∷ ms) node e h = up_by (is_called l m.head m.carried) l k m (call_in m.carried) (call_under l ms) z refl e node h.0 (λ y. called_up l k z ms node y h.1)

both_up : (a b c d : ℕ) → IsUpTo a b c d → IsUpTo c d a b → (a ≡ c) × (b ≡ d)
both_up a b c d (inl l) (inl k) = let x : a < c = l in let y : c < a = k in absurd (omega arith)
both_up a b c d (inl l) (inr k) = let x : a < c = l in let y : c ≡ a = k.0 in absurd (omega arith)
both_up a b c d (inr l) (inl k) = let x : a ≡ c = l.0 in let y : c < a = k in absurd (omega arith)
both_up a b c d (inr l) (inr k) = let x : b ≤ d = l.1 in let y : d ≤ b = k.1 in (l.0, omega arith)

-- ---- what goes back under the call that waits

pub its_key : (n : ℕ) (c : ClientState) (act : Going) (head : Head) → head.to ≡ Client n → is_awaited c act head ≡ true → last_key n c ≡ answered_key head
its_key n c act head to e =
    let p = both (same_node head.from c.callee) _ e in
    let q = both (nat_eq head.epoch c.epoch) _ p.1 in
    let u = both (nat_eq head.number c.last) _ q.1 in
    sym (ap (λ (m : Node). a_key m head.epoch head.number) to ∙ (ap (λ (i : ℕ). a_key (Client n) i head.number) (eqb-true head.epoch c.epoch q.0) ∙ ap (λ (i : ℕ). a_key (Client n) c.epoch i) (eqb-true head.number c.last u.0)))

pub its_callee : (c : ClientState) (act : Going) (head : Head) → is_awaited c act head ≡ true → head.from ≡ c.callee
its_callee c act head e = same_node-true head.from c.callee (both (same_node head.from c.callee) _ e).0

its_opcode : (c : ClientState) (act : Going) (head : Head) → is_awaited c act head ≡ true → head.opcode ≡ opcode_of c act
its_opcode c act head e =
    let p = both (same_node head.from c.callee) _ e in
    let q = both (nat_eq head.epoch c.epoch) _ p.1 in
    let u = both (nat_eq head.number c.last) _ q.1 in
    eqb-true head.opcode (opcode_of c act) u.1

-- ---- that it awaits a header says the same as that this is one of its last call

known_seeks : (s : Script) (c : Cell) (past : List Entry) → KnownAsked s c past → Each (IfSeek (IsUpToLast c.clients)) (sent_of past)
known_seeks s c past h = subst (Each (IfSeek (IsUpToLast c.clients))) (sym h.0.hears.told) h.1.upto

known_calls : (s : Script) (c : Cell) (past : List Entry) → (h : KnownAsked s c past) → Each (IfCall (KnownBy h.0.keys.callees c.clients)) (sent_of past)
known_calls s c past h = subst (Each (IfCall (KnownBy h.0.keys.callees c.clients))) (sym h.0.hears.told) h.0.keys.calls

last_under : (s : Script) (c : Cell) (past : List Entry) (n : ℕ) (act : Going) → KnownAsked s c past → (c.clients n).running ≡ Some act → call_under (last_key n (c.clients n)) (sent_of past) ≡ Some ((c.clients n).user, call_of (c.clients n) act)
last_under s c past n act h r = ap (call_under (last_key n (c.clients n))) h.0.hears.told ∙ h.1.last n act r

last_callee : (s : Script) (c : Cell) (past : List Entry) (n : ℕ) (act : Going) → KnownAsked s c past → (c.clients n).running ≡ Some act → callee_under (last_key n (c.clients n)) (sent_of past) ≡ Some (c.clients n).callee
last_callee s c past n act h r = callee_is h.0.keys.callees c.clients n (last_key n (c.clients n)) _ (sent_of past) refl (last_under s c past n act h r) (known_calls s c past h) ∙ ap Some (h.0.keys.own n)

pub of_last_call : (s : Script) (c : Cell) (past : List Entry) (n : ℕ) (act : Going) (head : Head) → KnownAsked s c past → (c.clients n).running ≡ Some act → head.to ≡ Client n → is_awaited (c.clients n) act head ≡ true → IsOfLastCall head past
of_last_call s c past n act head h r to e =
    let x : ClientState = c.clients n in
    let key : last_key n x ≡ answered_key head = its_key n x act head to e in
    record {
      user = x.user;
      call = call_of x act;
      of = subst (λ (k : Key). call_under k (sent_of past) ≡ Some (x.user, call_of x act)) key (last_under s c past n act h r);
      from = subst (λ (k : Key). callee_under k (sent_of past) ≡ Some head.from) key (last_callee s c past n act h r ∙ ap Some (sym (its_callee x act head e)));
      opcode = its_opcode x act head e;
      last = its_last h.0.keys.callees c.clients n (answered_key head) (sent_of past) (sym key) (known_calls s c past h) (known_seeks s c past h);
    }

same_at : (n m : Node) (a b c d : ℕ) → n ≡ m → a ≡ c → b ≡ d → a_key n a b ≡ a_key m c d
same_at n m a b c d x y z = ap (λ (q : Node). a_key q a b) x ∙ (ap (λ (e : ℕ). a_key m e b) y ∙ ap (λ (i : ℕ). a_key m c i) z)

-- what was asked of the location database is none above the last call of its node
asks_up : (l k : Key) (user : List ℕ) (q : LocCall) (ms : List Message) → l.node ≡ k.node → questions.WasAskedOfLoc l user q ms → IsLastCall k ms → IsUpTo l.epoch l.number k.epoch k.number
asks_up l k user q [] node x h = absurd x
asks_up l k user q (m ∷ ms) node (inl x) h = subst (λ (i : Key). IsUpTo i.epoch i.number k.epoch k.number) x.0 (h.0 (subst IsCall (sym x.1) tt) (ap (λ (i : Key). i.node) x.0 ∙ node))
asks_up l k user q (m ∷ ms) node (inr x) h = asks_up l k user q ms node x h.1

last_parts : (k : Key) (a b : List Message) → IsLastCall k (a ++ b) → IsLastCall k a × IsLastCall k b
last_parts k [] b h = (tt, h)
last_parts k (m ∷ a) b h = let p = last_parts k a b h.1 in ((h.0, p.0), p.1)

since_up : (l k : Key) (user : List ℕ) (q : LocCall) (past : List Entry) → l.node ≡ k.node → AskedSince l user q past → IsLastCall k (sent_of past) → IsUpTo l.epoch l.number k.epoch k.number
since_up l k user q [] node x h = absurd x
since_up l k user q (e ∷ past) node (inl x) h = asks_up l k user q e.sent node x.1 (last_parts k (sent_of past) e.sent h).1
since_up l k user q (e ∷ past) node (inr x) h = since_up l k user q past node x.1 (last_parts k (sent_of past) e.sent h).0

-- while an act waits for it, the client's last call is what it asked
pub seek_is_last : (s : Script) (c : Cell) (past : List Entry) (n : ℕ) (k : Seek) (head : Head) → KnownAsked s c past → (c.clients n).seeking ≡ Some k → head.to ≡ Client n → IsOfLastCall head past → answered_key head ≡ last_key n (c.clients n)
seek_is_last s c past n k head h z to i =
    let x : ClientState = c.clients n in
    let l : Key = answered_key head in
    let up : IsUpTo l.epoch l.number x.epoch x.last = called_up l (last_key n x) (i.user, i.call) (sent_of past) to i.of (its_last h.0.keys.callees c.clients n (last_key n x) (sent_of past) refl (known_calls s c past h) (known_seeks s c past h)) in
    let down : IsUpTo x.epoch x.last l.epoch l.number = since_up (last_key n x) l (user_at s n) (question k.operand) past (sym to) (h.1.seeks n k z).asked i.last in
    let same = both_up l.epoch l.number x.epoch x.last up down in
    same_at head.to (Client n) l.epoch l.number x.epoch x.last to same.0 same.1

-- the call of an act that runs, and what goes back under it is awaited
pub record IsTheLast (n : ℕ) (c : ClientState) (act : Going) (head : Head) (call : FsCall) : Type 0 where
  pub call' : call ≡ call_of c act
  pub awaited : is_awaited c act head ≡ true

pub is_the_last : (s : Script) (c : Cell) (past : List Entry) (n : ℕ) (act : Going) (head : Head) → KnownAsked s c past → (c.clients n).running ≡ Some act → head.to ≡ Client n → (i : IsOfLastCall head past) → IsTheLast n (c.clients n) act head i.call
is_the_last s c past n act head h r to i =
    let x : ClientState = c.clients n in
    let k : Key = answered_key head in
    let under : call_under (last_key n x) (sent_of past) ≡ Some (x.user, call_of x act) = last_under s c past n act h r in
    let up : IsUpTo k.epoch k.number x.epoch x.last = called_up k (last_key n x) (i.user, i.call) (sent_of past) to i.of (its_last h.0.keys.callees c.clients n (last_key n x) (sent_of past) refl (known_calls s c past h) (known_seeks s c past h)) in
    let down : IsUpTo x.epoch x.last k.epoch k.number = called_up (last_key n x) k (x.user, call_of x act) (sent_of past) (sym to) under i.last in
    let same = both_up k.epoch k.number x.epoch x.last up down in
    let key : k ≡ last_key n x = same_at head.to (Client n) k.epoch k.number x.epoch x.last to same.0 same.1 in
    let call : i.call ≡ call_of x act = ap (λ (p : List ℕ × FsCall). p.1) (some_of (i.user, i.call) (x.user, call_of x act) (sym i.of ∙ (ap (λ (q : Key). call_under q (sent_of past)) key ∙ under))) in
    let from : head.from ≡ x.callee = some_of head.from x.callee (sym i.from ∙ (ap (λ (q : Key). callee_under q (sent_of past)) key ∙ last_callee s c past n act h r)) in
    record { call' = call; awaited = is_its x act head from same.0 same.1 (i.opcode ∙ ap call_number call) }

-- ---- the answer to the call that waits

record IsAnswered (n : ℕ) (c : ClientState) (m : Message) : Type 0 where
  act : Going
  runs : c.running ≡ Some act
  to : m.head.to ≡ Client n
  its : is_awaited c act m.head ≡ true
  is : IsFileReply m.carried

coded : (x : Carried) → IsFileReply x → (code : ℤ) × (code_told x ≡ Some code)
coded (carried.Refusal code) is = (code.0, refl)
coded (carried.Reply (tell.File reply)) is = (pos 0, refl)
coded (carried.Reply reply) is = absurd is
coded (carried.Call user call) is = absurd is
coded carried.Notice is = absurd is

answer_heard : (s : Script) (c : Cell) (past : List Entry) (n place : ℕ) (m : Message) → KnownAsked s c past → message_at c.sent place ≡ Some m → IsAnswered n (c.clients n) m → HearsAnswer (Client n) past (client_row (Client n) (c.clients n) c.clock place (Whole m)).lines
answer_heard s c past n place m h at a = record {
  message = m;
  given = (client_given c past n place m h.0.hears a.to at).given (sent_of past) ∙ (ap (λ (ms : List Message). message_at ms place) h.0.hears.told ∙ at);
  to = a.to;
  is = a.is;
  code = (coded m.carried a.is).0;
  told = (coded m.carried a.is).1;
  its = of_last_call s c past n a.act m.head h a.runs a.to a.its;
}

-- ---- its number stays, unless it is given that

abbrev Stays : Type 0 → ClientState → Step ClientState → Type 0
Stays A c st = (st.state.last ≡ c.last) ⊎ A

if_stays : (A : Type 0) (t : Bool) (c : ClientState) (a b : Step ClientState) → (t ≡ true → Stays A c a) → Stays A c b → Stays A c (cond t a b)
if_stays A true c a b h k = h refl
if_stays A false c a b h k = k

counts_stays : (A : Type 0) (n clock place : ℕ) (c : ClientState) (act : Going) (head : Head) (x : Carried) → (IsFileReply x → A) → Stays A c (counts (Client n) c clock place act head x)
counts_stays A n clock place c act head (carried.Call user call) w = inl refl
counts_stays A n clock place c act head (carried.Refusal code) w = inr (w tt)
counts_stays A n clock place c act head (carried.Reply (tell.File reply)) w = inr (w tt)
counts_stays A n clock place c act head (carried.Reply reply) w = inl refl
counts_stays A n clock place c act head carried.Notice w = inl refl

awaits_stays : (A : Type 0) (n clock place : ℕ) (c : ClientState) (head : Head) (x : Carried) (o : Option Going) → ((act : Going) → o ≡ Some act → is_awaited c act head ≡ true → IsFileReply x → A) → Stays A c (awaits (Client n) c clock place head x o)
awaits_stays A n clock place c head x None w = inl refl
awaits_stays A n clock place c head x (Some act) w = if_stays A (is_awaited c act head) c _ _ (λ t. counts_stays A n clock place c act head x (w act refl t)) (inl refl)

breaks_last : (n place : ℕ) (c : ClientState) (head : Head) (call : FsCall) → (breaks (Client n) c place head call).state.last ≡ c.last
breaks_last n place c head (calls.CallBack fs callbacks) = refl
breaks_last n place c head calls.InitCallBackState = refl
breaks_last n place c head calls.Probe = refl
breaks_last n place c head call = refl

carried_last : (n place : ℕ) (c : ClientState) (head : Head) (x : Carried) → (runs_carried (Client n) c place head x).state.last ≡ c.last
carried_last n place c head (carried.Call user (ask.File call)) = breaks_last n place c head call
carried_last n place c head (carried.Call user call) = refl
carried_last n place c head x = refl

admits_last : (n place : ℕ) (c : ClientState) (head : Head) (x : Carried) (o : Admitted Message) → (admits_call (Client n) c place head (whole head x) o).state.last ≡ c.last
admits_last n place c head x pairs.runs = carried_last n place c head x
admits_last n place c head x (pairs.kept reply) = refl
admits_last n place c head x pairs.in_progress = refl
admits_last n place c head x pairs.older = refl
admits_last n place c head x (pairs.wrong_boot boot) = refl

hears_stays : (A : Type 0) (n clock place : ℕ) (c : ClientState) (head : Head) (x : Carried) → ((act : Going) → c.running ≡ Some act → is_awaited c act head ≡ true → IsFileReply x → A) → Stays A c (hears (Client n) c clock place head x)
hears_stays A n clock place c head (carried.Call user call) w = inl (admits_last n place c head (carried.Call user call) (admitted c.epoch c.seats head))
hears_stays A n clock place c head x w = awaits_stays A n clock place c head x c.running w

row_stays : (n clock place : ℕ) (c : ClientState) (m : Message) → m.head.to ≡ Client n → Stays (IsAnswered n c m) c (client_row (Client n) c clock place (Whole m))
unfolding client_row
row_stays n clock place c m to =
    if_stays (IsAnswered n c m) (same_node m.head.to (Client n)) c _ _ (λ t. hears_stays (IsAnswered n c m) n clock place c m.head m.carried (λ act r its is. record { act = act; runs = r; to = to; its = its; is = is })) (inl refl)

either_last : (t : Bool) (c : ClientState) (a b : Step ClientState) → a.state.last ≡ c.last → b.state.last ≡ c.last → (cond t a b).state.last ≡ c.last
either_last true c a b h k = h
either_last false c a b h k = k

waits_last : (n : ℕ) (c : ClientState) (act : Going) → (timeout_row (Client n) c act).state.last ≡ c.last
waits_last n c act = either_last (nat_lt c.tries 2) c _ _ refl refl

-- ---- what it sends now

-- where it makes another call it begins an act, or is given that answer
abbrev HasTurn : ℕ → ClientState → Step ClientState → List Entry → Type 0
HasTurn n c st past = (st.state.last ≡ c.last → ⊥) → (has_begun (Client n) st.lines ≡ true) ⊎ HearsAnswer (Client n) past st.lines

under_sent : (t : Bool) (x : Carried) (o : Option (List ℕ × FsCall)) (p : List ℕ × FsCall) (rest : Bool) → (o ≡ Some p → rest ≡ true) → cond t (call_in x) o ≡ Some p → cond t true rest ≡ true
under_sent true x o p rest w e = refl
under_sent false x o p rest w e = w e

was_sent : (k : Key) (sent : List Message) (p : List ℕ × FsCall) → call_under k sent ≡ Some p → has_sent k sent ≡ true
was_sent k [] p e = absurd cc
was_sent k (m ∷ sent) p e = under_sent (is_called k m.head m.carried) m.carried (call_under k sent) p (has_sent k sent) (was_sent k sent p) e

last_turn : (n : ℕ) (c : ClientState) (st : Step ClientState) (act : Going) (past : List Entry) → ((g : Going) → c.running ≡ Some g → has_sent (last_key n c) (sent_of past) ≡ true) → Acts n (who_at c) c.gifts st → HasTurn n c st past → st.state.running ≡ Some act → IsInTurn (last_key n st.state) (of_client n st ∷ past)
last_turn n c st act past numbered a turn run = elim a.goes [
  | inl r ↦ elim r.act [
    | inl none ↦ absurd (none_runs st.state.running act none run)
    | inr same ↦ inl (subst (λ (k : Key). has_sent k (sent_of past) ≡ true) (sym (same_key_at n c st.state r.epoch r.last)) (numbered act (sym same.0 ∙ run)))
  ]
  | inr y ↦ elim y [
    | inl z ↦ inr (turn (more_not st.state.last c.last z.last))
    | inr z ↦ absurd (none_runs st.state.running act z.act run)
  ]
]

abbrev pub TakesTurn : List Entry → Head → List ℕ → FsCall → Type 0
TakesTurn past head user call = IsInTurn (called_key head) past

client_turns : (s : Script) (c : Cell) (past : List Entry) (n : ℕ) (st : Step ClientState) → Numbered s c past → Acts n (who_at (c.clients n)) (c.clients n).gifts st → HasTurn n (c.clients n) st past → Each (IfCall (TakesTurn (of_client n st ∷ past))) st.sent
client_turns s c past n st h a turn =
    let x : ClientState = c.clients n in
    let numbered : (g : Going) → x.running ≡ Some g → has_sent (last_key n x) (sent_of past) ≡ true = λ g r. was_sent (last_key n x) (sent_of past) (x.user, call_of x g) (last_under s c past n g h.0.0.0 r) in
    let now : (head : Head) (user : List ℕ) (call : FsCall) → IsTheCall n st.state head user call → TakesTurn (of_client n st ∷ past) head user call =
    λ head user call i. subst (λ (k : Key). IsInTurn k (of_client n st ∷ past)) (sym i.key) (last_turn n x st i.act past numbered a turn i.runs) in
    each_map (IfCall (IsTheCall n st.state)) (IfCall (TakesTurn (of_client n st ∷ past))) (if_call (IsTheCall n st.state) (TakesTurn (of_client n st ∷ past)) now) st.sent (the_calls n x st a.goes)

-- and what it asks the location database
abbrev pub TakesAsk : List Entry → Head → List ℕ → LocCall → Type 0
TakesAsk past head user call = IsAskedInTurn (called_key head) user call past

client_asks : (s : Script) (c : Cell) (past : List Entry) (n : ℕ) (st : Step ClientState) → KnownAsked s c past → Acts n (who_at (c.clients n)) (c.clients n).gifts st → HasTurn n (c.clients n) st past → Each (IfSeek (TakesAsk (of_client n st ∷ past))) st.sent
client_asks s c past n st h a turn =
    let x : ClientState = c.clients n in
    let now : (head : Head) (user : List ℕ) (call : LocCall) → IsTheSeek n st.state head user call → TakesAsk (of_client n st ∷ past) head user call =
    λ head user call i. subst (λ (k : Key). IsAskedInTurn k user call (of_client n st ∷ past)) (sym i.key) (elim (a.seeks i.its i.seeks) [
      | inl on ↦ inl (
        on.begins,
        subst (λ (k : Key). AskedSince k user call past) (sym (same_key_at n x st.state on.epoch on.last))
            (subst (λ (u : List ℕ). AskedSince (last_key n x) u call past) (sym (i.user' ∙ (a.user ∙ h.1.user n))) (subst (λ (q : LocCall). AskedSince (last_key n x) (user_at s n) q past) (sym i.asks) (h.1.seeks n i.its on.before).asked)),
      )
      | inr w ↦ inr (next_uncalled s c past n (last_key n st.state) h.0 h.1 (record { node = refl; epoch = w.above.0; number = w.above.1 }), turn (more_not st.state.last x.last w.above.1))
    ]) in
    each_map (IsOwnSeek n st.state) (IfSeek (TakesAsk (of_client n st ∷ past))) (if_seek (IsTheSeek n st.state) (TakesAsk (of_client n st ∷ past)) now) st.sent a.keys

told_turn : (s : Script) (c : Cell) (past : List Entry) (n place : ℕ) (m : Message) → Numbered s c past → message_at c.sent place ≡ Some m → m.head.to ≡ Client n → HasTurn n (c.clients n) (client_row (Client n) (c.clients n) c.clock place (Whole m)) past
told_turn s c past n place m h at to other = elim (row_stays n c.clock place (c.clients n) m to) [
  | inl same ↦ absurd (other same)
  | inr a ↦ inr (answer_heard s c past n place m h.0.0.0 at a)
]

-- ---- every step

abbrev TurnsNow' : List Entry → Moved → Type 0
TurnsNow' past m = Each (IfCall (TakesTurn (m.entry ∷ past))) m.entry.sent × ((j : ℕ) → m.entry.actor ≡ actors.Node (Client j) → Each (IfSeek (TakesAsk (m.entry ∷ past))) m.entry.sent)

abbrev pub TurnsNow : Cell → List Entry → Moved → Type 0
TurnsNow c past m = Each (IfCall (TakesTurn (m.entry ∷ past))) m.entry.sent × ((j : ℕ) → m.entry.actor ≡ actors.Node (Client j) → Each (IfSeek (TakesAsk (m.entry ∷ past))) m.entry.sent)

none_turn : (past : List Entry) (m : Moved) → Each IsUncalled m.entry.sent → ((j : ℕ) → m.entry.actor ≡ actors.Node (Client j) → ⊥) → TurnsNow' past m
none_turn past m h other = (each_map IsUncalled (IfCall (TakesTurn (m.entry ∷ past))) (uncalled_any (TakesTurn (m.entry ∷ past))) m.entry.sent h, λ j e. absurd (other j e))

client_both : (s : Script) (c : Cell) (past : List Entry) (n : ℕ) (st : Step ClientState) → Numbered s c past → Acts n (who_at (c.clients n)) (c.clients n).gifts st → HasTurn n (c.clients n) st past
    → Each (IfCall (TakesTurn (of_client n st ∷ past))) st.sent × ((j : ℕ) → actors.Node (Client n) ≡ actors.Node (Client j) → Each (IfSeek (TakesAsk (of_client n st ∷ past))) st.sent)
client_both s c past n st h a turn = (client_turns s c past n st h a turn, λ j e. client_asks s c past n st h.0.0.0 a turn)

pub turn_moves : (s : Script) → EachMove (Numbered s) TurnsNow
turn_moves s = record {
  void = λ c past h. (tt, λ j e. tt);
  ticked = λ c past n h. (tt, λ j e. tt);
  begun = λ c past n act h r z0. client_both s c past n _ h (begins_acts n (c.clients n) c.clock act r z0) (λ other. inl (row_begun (c.clients n) n c.clock act));
  told = λ c past n place m h at to un. client_both s c past n _ h (given_acts (by_key (IsKnown h.0.0.0.0.keys.callees c.clients)) any_told n (c.clients n) c.clock place m (h.0.0.0.0.keys.replies n) (h.0.0.0.1.seats n)) (told_turn s c past n place m h at to);
  sought = λ c past n place m k h at to z e. client_both s c past n _ h (sought_acts_in s c past n place m k h.0.0.0.1 at z e) (λ other. absurd (other (quietly s c past n place m k (λ st. st.state.last ≡ (c.clients n).last) h.0.0.0.1 at z e (λ code. refl) refl refl)));
  missed = λ c past n k h r z. client_both s c past n _ h (missed_acts n (c.clients n) k r z) (λ other. absurd (other (either_last (nat_lt (c.clients n).tries 2) (c.clients n) _ _ refl refl)));
  loc = λ c past l ls ms h st. none_turn past (loc_becomes c l ls ms) (loc_uncalled c l ls ms st) (λ j e. absurd cc);
  waited = λ c past n act h r. client_both s c past n _ h (waits_acts n (c.clients n) act r) (λ other. absurd (other (waits_last n (c.clients n) act)));
  fallen = λ c past n h. (tt, λ j e. tt);
  risen = λ c past n h. (tt, λ j e. tt);
  served = λ c past i place m armed h up at to. none_turn past (server_moves c i armed (server_row (Server i) (c.hosts i).state c.clock place (Whole m))) (served_uncalled c past i place m h.0.0.0.0 at) (λ j e. absurd cc);
  cut = λ c past i place m t h up at to. (tt, λ j e. tt);
  stopped = λ c past i h up. (tt, λ j e. tt);
  stop_set = λ c past i calls pick armed h up. (tt, λ j e. tt);
  fail_set = λ c past i call armed h up. (tt, λ j e. tt);
  timed = λ c past i n b armed h up at. none_turn past (server_moves c i armed (back_timeout_row (Server i) (c.hosts i).state c.clock n b)) (timed_uncalled c past i n b h.0.0.0.0) (λ j e. absurd cc);
  woken = λ c past i armed h up. none_turn past (server_moves c i armed (wake_row (Server i) (c.hosts i).state c.clock)) (woken_uncalled c past i h.0.0.0.0) (λ j e. absurd cc);
  started = λ c past i after fall h down. none_turn past (server_rises c i (begun_by_disk (Server i) (c.hosts i).state after fall)) (started_uncalled c past i after fall h.0.0.0.0 down) (λ j e. absurd cc);
  early = λ c past i fall h down. (tt, λ j e. tt);
  midway = λ c past i after fall h down. (tt, λ j e. tt);
  full = λ c past i after fall h down. (tt, λ j e. tt);
}
