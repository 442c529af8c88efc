-- What was sent under a key.
use Rattle.law_legal.proofs.ActNeedsNext.{asks_is}
use Rattle.afs_num.specs.declared.types.Node.{Node}
use Rattle.spec_rows.specs.States.{Location}
use Rattle.law_legal.proofs.BaseLaws.{Each, IfCall, ByClient, by_client, OfCall, each_at}
use Rattle.std.proofs.Common.{not, ◌≡◌, ℕ, ◌+◌, inl, inr, Bool, true, false, cond, List, [], ◌∷◌, Option, Some, None, refl, ap, subst, ◌∙◌, ◌++◌}
use Rattle.afs_num.specs.declared.types.Head.{Head}
use Rattle.afs_num.specs.declared.types.Key.{Key}
use Rattle.afs_num.specs.declared.types.Node.TheVariants.{Client}
use Rattle.afs_num.specs.declared.calls.FsCall.{FsCall}
use Rattle.afs_num.specs.declared.messages.Message.{Message}
use Rattle.law_legal.proofs.BaseWords.{IsOne}
use Rattle.spec_rows.specs.ClientRow.{call_of}
use Rattle.spec_rows.specs.Going.{asked, Going, ClientState}
use Rattle.law_legal.specs.Ideal.{call_in, call_under}
use Rattle.law_legal.specs.Legal.{as_asked}
use Rattle.law_legal.specs.Past.{has_sent, is_new_to_act, sent_of, CalledSince, has_begun, called_key, is_called, Sends, given_message, is_by_key, has_called}
use Rattle.spec_rows.specs.Runs.{Entry}
use Rattle.afs_num.specs.declared.messages.Carried.{Carried}
use Rattle.afs_num.specs.declared.messages.Carried.TheVariants as carried
use Rattle.afs_num.specs.declared.messages.Call.TheVariants as ask
use Rattle.spec_history.specs.declared.lines.Line.{Line}
use Rattle.spec_history.specs.declared.lines.Line.TheVariants as lines

-- ---- a call is sent

pub call_is : (x : ClientState) (act : Going) → as_asked (call_of x act) ≡ asked act
call_is x act = asks_is x.gifts act

-- ---- the call under the key of one that is sent now

pub under_by : (t : Bool) (c : Carried) (o p : Option (List ℕ × FsCall)) (x : List ℕ × FsCall) (k : Key) (head : Head) → is_called k head c ≡ t → cond t (call_in c) o ≡ None → (o ≡ None → p ≡ Some x) → cond t (call_in c) p ≡ Some x
under_by true (carried.Call user (ask.File call)) o p x k head t e h = absurd cc
under_by true (carried.Call user (ask.Volume call)) o p x k head t e h = absurd cc
under_by true (carried.Call user (ask.Location call)) o p x k head t e h = absurd cc
under_by true (carried.Refusal code) o p x k head t e h = absurd cc
under_by true (carried.Reply reply) o p x k head t e h = absurd cc
under_by true carried.Notice o p x k head t e h = absurd cc
under_by false c o p x k head t e h = h e

pub under_last : (k : Key) (sent : List Message) (m : Message) (x : List ℕ × FsCall) → call_under k sent ≡ None → is_called k m.head m.carried ≡ true → call_in m.carried ≡ Some x → call_under k (sent ++ m ∷ []) ≡ Some x
under_last k [] m x none t e = rw t e
under_last k (o ∷ sent) m x none t e = under_by (is_called k o.head o.carried) o.carried (call_under k sent) (call_under k (sent ++ m ∷ [])) x k o.head refl none (λ y. under_last k sent m x y t e)

-- a call that was sent is the one under its key
pub sends_by : (n : ℕ) (k : Key) (user : List ℕ) (call : FsCall) (S : List Message) (head : Head) (c : Carried) → k.node ≡ Client n → called_key head ≡ k → c ≡ carried.Call user (ask.File call) → OfCall (ByClient (IsOne S)) head c → call_under k S ≡ Some (user, call)
sends_by n k user call S head c node key is h = subst (λ (l : Key). call_under l S ≡ Some (user, call)) key (by_client n head.from (IsOne S head user call) (ap (λ (l : Key). l.node) key ∙ node) (subst (λ (x : Carried). OfCall (ByClient (IsOne S)) head x) is h))

pub sends_one : (n : ℕ) (k : Key) (user : List ℕ) (call : FsCall) (S ms : List Message) → k.node ≡ Client n → Sends k user call ms → Each (IfCall (IsOne S)) ms → call_under k S ≡ Some (user, call)
sends_one n k user call S [] node s h = absurd s
sends_one n k user call S (m ∷ ms) node (inl s) h = sends_by n k user call S m.head m.carried node s.0 s.1 h.0
sends_one n k user call S (m ∷ ms) node (inr s) h = sends_one n k user call S ms node s h.1

pub each_front : (P : Message → Type 0) (a b : List Message) → Each P (a ++ b) → Each P a × Each P b
each_front P [] b h = (tt, h)
each_front P (m ∷ a) b h = ((h.0, (each_front P a b h.1).0), (each_front P a b h.1).1)

pub called_one : (n : ℕ) (k : Key) (user : List ℕ) (call : FsCall) (S : List Message) (past : List Entry) → k.node ≡ Client n → CalledSince k user call past → Each (IfCall (IsOne S)) (sent_of past) → call_under k S ≡ Some (user, call)
called_one n k user call S [] node x h = absurd x
called_one n k user call S (e ∷ past) node (inl x) h = sends_one n k user call S e.sent node x.1 (each_front (IfCall (IsOne S)) (sent_of past) e.sent h).1
called_one n k user call S (e ∷ past) node (inr x) h = called_one n k user call S past node x.1 (each_front (IfCall (IsOne S)) (sent_of past) e.sent h).0

front_by : (t x y : Bool) → cond t true x ≡ false → (x ≡ false → y ≡ false) → cond t true y ≡ false
front_by true x y h w = absurd cc
front_by false x y h w = w h

pub not_front : (k : Key) (a b : List Message) → has_sent k (a ++ b) ≡ false → has_sent k a ≡ false
not_front k [] b h = refl
not_front k (m ∷ a) b h = front_by (is_called k m.head m.carried) (has_sent k (a ++ b)) (has_sent k a) h (λ y. not_front k a b y)

pub late_by : (t a b : Bool) → a ≡ false → b ≡ true → cond t (not a) b ≡ true
late_by true a b h e = ap not h
late_by false a b h e = e

pub not_called : (k : Key) (a b : List Message) → has_called k (a ++ b) ≡ false → has_called k a ≡ false
not_called k [] b h = refl
not_called k (m ∷ a) b h = front_by (is_by_key k m.head m.carried) (has_called k (a ++ b)) (has_called k a) h (λ y. not_called k a b y)

pub uncalled_late : (n : Node) (k : Key) (past : List Entry) → has_called k (sent_of past) ≡ false → is_new_to_act n k past ≡ true
uncalled_late n k [] h = refl
uncalled_late n k (e ∷ past) h = let none : has_called k (sent_of past) ≡ false = not_called k (sent_of past) e.sent h in late_by (has_begun n e.lines) (has_called k (sent_of past)) (is_new_to_act n k past) none (uncalled_late n k past none)

-- ---- what holds of all that was sent

-- what holds of all that was sent holds of the message that an entry is given
pub given_each : (P : Message → Type 0) (ls : List Line) (sent : List Message) (m : Message) → given_message ls sent ≡ Some m → Each P sent → P m
given_each P [] sent m e h = absurd cc
given_each P (lines.Given place ∷ ls) sent m e h = each_at P sent place m e h
given_each P (l ∷ ls) sent m e h = given_each P ls sent m e h

pub older_each : (P : Message → Type 0) (newer : List Entry) (at : Entry) (older : List Entry) → Each P (sent_of (newer ++ (at ∷ older))) → Each P (sent_of older)
older_each P [] at older h = (each_front P (sent_of older) at.sent h).0
older_each P (e ∷ newer) at older h = older_each P newer at older (each_front P (sent_of (newer ++ (at ∷ older))) e.sent h).0
