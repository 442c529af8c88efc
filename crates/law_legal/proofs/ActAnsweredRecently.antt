-- Acts are answered by calls that ran since they began: each call of a client has a key that no act before used.
use Rattle.spec_model.specs.Calls.{same_key}
use Rattle.std.proofs.Common.{◌≡◌, ℕ, zero, suc, Bool, true, false, cond, not, List, [], ◌∷◌, ◌++◌, Some, inl, inr, refl, sym, ap, subst, ◌∙◌}
use Rattle.std.specs.Prelude.{⊤}
use Rattle.spec_history.specs.declared.lines.Line.{Line}
use Rattle.spec_history.specs.declared.lines.Line.TheVariants as lines
use Rattle.spec_history.specs.declared.scripts.Script.{Script}
use Rattle.law_legal.proofs.BaseLaws.{same_key-refl}
use Rattle.law_legal.proofs.KeptPasses.{late_over, sent_either, sent_left, called_left, sent_called}
use Rattle.law_legal.specs.Ideal.{set_up_entry}
use Rattle.law_legal.specs.Laws.{AnswersAreRecent}
use Rattle.law_legal.specs.Legal.{AreGoodSent, GoodCall, HasOwnKey, LegalAfter}
use Rattle.law_legal.specs.Once.{past_of}
use Rattle.law_legal.specs.Past.{AreWithin, CalledSince, Ran, Sends, answered_key, called_key, given_message, has_begun, has_sent, is_called, is_new_to_act, sent_of, has_called}
use Rattle.afs_num.specs.declared.calls.FsCall.{FsCall}
use Rattle.afs_num.specs.declared.messages.Call.TheVariants as ask
use Rattle.afs_num.specs.declared.messages.Carried.{Carried}
use Rattle.afs_num.specs.declared.messages.Carried.TheVariants as carried
use Rattle.afs_num.specs.declared.messages.Message.{Message}
use Rattle.afs_num.specs.declared.types.Head.{Head}
use Rattle.afs_num.specs.declared.types.Key.{Key}
use Rattle.afs_num.specs.declared.types.Node.{Node}
use Rattle.afs_num.specs.declared.types.Node.TheVariants.{Client}
use Rattle.spec_rows.specs.Runs.{Entry, message_at}

-- ---- a call that was given was sent

pub sent_before : (k : Key) (newer older : List Entry) → has_sent k (sent_of older) ≡ true → has_sent k (sent_of (newer ++ older)) ≡ true
sent_before k [] older h = h
sent_before k (e ∷ newer) older h = sent_left k (sent_of (newer ++ older)) e.sent (sent_before k newer older h)

behind_by : (t a b : Bool) → a ≡ true → cond t (not a) b ≡ true → (t ≡ false) × (b ≡ true)
behind_by true a b h l = let no_ : true ≡ false = sym l ∙ ap not h in absurd cc
behind_by false a b h l = (refl, l)

called_before : (k : Key) (newer older : List Entry) → has_called k (sent_of older) ≡ true → has_called k (sent_of (newer ++ older)) ≡ true
called_before k [] older h = h
called_before k (e ∷ newer) older h = called_left k (sent_of (newer ++ older)) e.sent (called_before k newer older h)

called_within : (n : Node) (k : Key) (newer : List Entry) (at : Entry) (older : List Entry) → has_called k (sent_of older) ≡ true → is_new_to_act n k (newer ++ (at ∷ older)) ≡ true → AreWithin n (newer ++ at ∷ [])
called_within n k [] at older h l = ((behind_by (has_begun n at.lines) (has_called k (sent_of older)) (is_new_to_act n k older) h l).0, tt)
called_within n k (e ∷ newer) at older h l =
    let rest : List Entry = newer ++ (at ∷ older) in
    let x = behind_by (has_begun n e.lines) (has_called k (sent_of rest)) (is_new_to_act n k rest) (called_before k newer (at ∷ older) (called_left k (sent_of older) at.sent h)) l in
    (x.0, called_within n k newer at older h x.1)

pub late_within : (n : Node) (k : Key) (newer : List Entry) (at : Entry) (older : List Entry) → has_sent k (sent_of older) ≡ true → is_new_to_act n k (newer ++ (at ∷ older)) ≡ true → AreWithin n (newer ++ at ∷ [])
late_within n k newer at older h l = called_within n k newer at older (sent_called k (sent_of older) h) l

sent_at : (k : Key) (sent : List Message) (place : ℕ) (m : Message) → message_at sent place ≡ Some m → is_called k m.head m.carried ≡ true → has_sent k sent ≡ true
sent_at k [] place m e t = absurd cc
sent_at k (o ∷ sent) zero m e t = absurd cc
sent_at k (o ∷ sent) (suc zero) m e t = let one : o ≡ m = cc in subst (λ (x : Bool). cond x true (has_sent k sent) ≡ true) (sym (ap (λ (q : Message). is_called k q.head q.carried) one ∙ t)) refl
sent_at k (o ∷ sent) (suc (suc place)) m e t = sent_either (is_called k o.head o.carried) (has_sent k sent) (sent_at k sent (suc place) m e t)

pub sent_given : (k : Key) (ls : List Line) (sent : List Message) (m : Message) → given_message ls sent ≡ Some m → is_called k m.head m.carried ≡ true → has_sent k sent ≡ true
sent_given k [] sent m e t = absurd cc
sent_given k (lines.Given place ∷ ls) sent m e t = sent_at k sent place m e t
sent_given k (l ∷ ls) sent m e t = sent_given k ls sent m e t

pub ran_within : (n : Node) (reply : Head) (past : List Entry) (user : List ℕ) (call : FsCall) → (r : Ran reply past) → r.message.carried ≡ carried.Call user (ask.File call) → is_new_to_act n (answered_key reply) past ≡ true → AreWithin n (r.newer ++ r.at ∷ [])
ran_within n reply past user call r carries late =
    let k : Key = answered_key reply in
    let is : is_called k r.message.head r.message.carried ≡ true = ap (is_called k r.message.head) carries ∙ (ap (λ (l : Key). same_key l k) r.key ∙ same_key-refl k) in
    late_within n k r.newer r.at r.older (sent_given k r.at.lines (sent_of r.older) r.message r.given is) (subst (λ (p : List Entry). is_new_to_act n k p ≡ true) r.split late)

-- ---- what a legal history sends

abbrev AreSent : List Entry → Type 0
AreSent [] = ⊤
AreSent (e ∷ past) = AreGoodSent (e ∷ past) e.sent × AreSent past

legal_sent : (s : Script) (past es : List Entry) → AreSent past → LegalAfter s past es → AreSent (past_of past es)
legal_sent s past [] h l = h
legal_sent s past (e ∷ es) h l = legal_sent s (e ∷ past) es (l.0.0.1, h) l.1

own_key : (j : ℕ) (k : Key) (user : List ℕ) (call : FsCall) (past : List Entry) (ms : List Message) → k.node ≡ Client j → Sends k user call ms → AreGoodSent past ms → is_new_to_act (Client j) k past ≡ true
own_key j k user call past [] node x h = absurd x
own_key j k user call past (m ∷ ms) node (inl x) h =
    let own : HasOwnKey m.head.from (called_key m.head) past = subst (λ (c : Carried). GoodCall m.head c past) x.1 h.0.key in
    let from : m.head.from ≡ Client j = ap (λ (l : Key). l.node) x.0 ∙ node in
    subst (λ (l : Key). is_new_to_act (Client j) l past ≡ true) x.0 (subst (λ (n : Node). HasOwnKey n (called_key m.head) past) from own)
own_key j k user call past (m ∷ ms) node (inr x) h = own_key j k user call past ms node x h.1

called_late : (j : ℕ) (k : Key) (user : List ℕ) (call : FsCall) (past : List Entry) → k.node ≡ Client j → AreSent past → CalledSince k user call past → is_new_to_act (Client j) k past ≡ true
called_late j k user call [] node h x = absurd x
called_late j k user call (e ∷ past) node h (inl x) = own_key j k user call (e ∷ past) e.sent node x.1 h.0
called_late j k user call (e ∷ past) node h (inr x) = late_over (Client j) k e past (subst (λ (n : Node). has_begun n e.lines ≡ false) node x.0) (called_late j k user call past node h.1 x.1)

pub recent : AnswersAreRecent
recent s history h j act code own x =
    ran_within (Client j) x.reply.head (past_of (set_up_entry s ∷ []) history) x.cause.user x.cause.call x.cause.ran x.cause.carries
    (called_late j (answered_key x.reply.head) x.cause.user x.cause.call (past_of (set_up_entry s ∷ []) history) x.to (legal_sent s (set_up_entry s ∷ []) history (tt, tt) h) x.called)
