-- What a client asks the location database is all that a legal history asks of it, however many servers a cell has.
use Rattle.spec_history.specs.declared.lines.Line.{Line}
use Rattle.spec_history.specs.declared.scripts.Script.{Script}
use Rattle.law_legal.proofs.ActLines.{Acts, IfSeek, IsOwnSeek, IsTheSeek, last_key, seeks_act, who_at}
use Rattle.law_legal.proofs.ActSteps.{begins_acts, falls_acts, given_acts, missed_acts, rises_acts, waits_acts}
use Rattle.law_legal.proofs.ClientCallsOfAct.{its_last}
use Rattle.law_legal.proofs.BaseLaws.{Each, IfCall, at_put, client_number, each_map}
use Rattle.law_legal.proofs.ActAnswersCaused.{may_ask}
use Rattle.law_legal.proofs.ActIsDue.{DueFacts, asked_why}
use Rattle.law_legal.proofs.ClientCallsInTurn.{KnownBy, TakesAsk}
use Rattle.law_legal.proofs.CallKeysOnce.{IsKnown, any_told, by_key}
use Rattle.law_legal.proofs.RunWalk.{EachMove}
use Rattle.law_legal.proofs.ClientCallsNumbered.{IsNumbered, Numbered}
use Rattle.law_legal.proofs.ActCalls.{AskedIn, IsSeeking, IsUpToLast, handed_same, if_seek, of_client}
use Rattle.law_legal.proofs.ActCallsInRuns.{KnownAsked, sought_acts_in}
use Rattle.law_legal.proofs.ServerTellsTruth.{Truthful}
use Rattle.law_legal.specs.Legal.{IsInOrder, KnowsLocBoot, OwnQuestion, OwnQuestionOf}
use Rattle.law_legal.specs.Lives.{epoch_after}
use Rattle.law_legal.specs.Past as questions
use Rattle.law_legal.specs.Past.{AskedSince, called_key, lines_of, sent_of}
use Rattle.afs_num.specs.declared.histories.Actor.{Actor}
use Rattle.afs_num.specs.declared.histories.Actor.TheVariants as actors
use Rattle.afs_num.specs.declared.location_calls.LocCall.{LocCall}
use Rattle.afs_num.specs.declared.messages.Call.TheVariants as ask
use Rattle.afs_num.specs.declared.messages.Carried.{Carried}
use Rattle.afs_num.specs.declared.messages.Carried.TheVariants as carried
use Rattle.afs_num.specs.declared.messages.Message.{Message}
use Rattle.afs_num.specs.declared.types.Head.{Head}
use Rattle.afs_num.specs.declared.types.Key.{Key}
use Rattle.afs_num.specs.declared.types.Node.{Node}
use Rattle.afs_num.specs.declared.types.Node.TheVariants.{Admin, Client, Loc, Server}
use Rattle.spec_rows.specs.Callbacks.{put}
use Rattle.spec_rows.specs.ClientRow.{act_of, boot_of, question}
use Rattle.spec_rows.specs.Going.{ClientState, Left, Seek}
use Rattle.spec_rows.specs.Runs.{Cell, Entry, Moved, user_at}
use Rattle.spec_rows.specs.Steps.{Step}
use Rattle.std.proofs.Common.{ℕ, inl, inr, List, [], ◌∷◌, None, Some, ◌≡◌, ◌∙◌, ap, refl, subst, sym}
use Rattle.std.specs.Prelude.{⊤}

-- ---- what is asked now

-- it is what its client asks, behind the step
abbrev pub AreAsked : ℕ → Moved → Type 0
AreAsked j m = Each (IfSeek (IsTheSeek j (m.cell.clients j))) m.entry.sent

abbrev pub AskStep : Cell → List Entry → Moved → Type 0
AskStep c past m = (j : ℕ) → m.entry.actor ≡ actors.Node (Client j) → AreAsked j m

one_client : (n j : ℕ) → actors.Node (Client n) ≡ actors.Node (Client j) → n ≡ j
one_client n j e = client_number n j (one_node (Client n) (Client j) e)
  where
    one_node : (p q : Node) → actors.Node p ≡ actors.Node q → p ≡ q
    one_node p q e = cc

client_seeks : (c : Cell) (n : ℕ) (st : Step ClientState) → Acts n (who_at (c.clients n)) (c.clients n).gifts st → (j : ℕ) → actors.Node (Client n) ≡ actors.Node (Client j) → Each (IfSeek (IsTheSeek j (put n st.state c.clients j))) st.sent
client_seeks c n st a j e =
    at_put n j (λ (x : ClientState). Each (IfSeek (IsTheSeek j x)) st.sent) st.state c.clients
    (λ same. subst (λ (i : ℕ). Each (IfSeek (IsTheSeek i st.state)) st.sent) same a.keys) (λ other. absurd (other (one_client n j e)))

pub seeks_moves : (s : Script) → EachMove (KnownAsked s) AskStep
seeks_moves s = record {
  void = λ c past h j e. absurd cc;
  ticked = λ c past n h j e. absurd cc;
  begun = λ c past n act h r z. client_seeks c n _ (begins_acts n (c.clients n) c.clock act r z);
  told = λ c past n place m h at to un. client_seeks c n _ (given_acts (by_key (IsKnown h.0.keys.callees c.clients)) any_told n (c.clients n) c.clock place m (h.0.keys.replies n) (h.1.seats n));
  sought = λ c past n place m k h at to z e. client_seeks c n _ (sought_acts_in s c past n place m k h.1 at z e);
  missed = λ c past n k h r z. client_seeks c n _ (missed_acts n (c.clients n) k r z);
  loc = λ c past l ls ms h st j e. absurd cc;
  waited = λ c past n act h r. client_seeks c n _ (waits_acts n (c.clients n) act r);
  fallen = λ c past n h. client_seeks c n _ (falls_acts n c.handed (c.clients n) (handed_same s c past h.1 n));
  risen = λ c past n h. client_seeks c n _ (rises_acts n (c.clients n));
  served = λ c past i place m armed h up at to j e. absurd cc;
  cut = λ c past i place m t h up at to j e. absurd cc;
  stopped = λ c past i h up j e. absurd cc;
  stop_set = λ c past i calls pick armed h up j e. absurd cc;
  fail_set = λ c past i call armed h up j e. absurd cc;
  timed = λ c past i n b armed h up at j e. absurd cc;
  woken = λ c past i armed h up j e. absurd cc;
  started = λ c past i after fall h down j e. absurd cc;
  early = λ c past i fall h down j e. absurd cc;
  midway = λ c past i after fall h down j e. absurd cc;
  full = λ c past i after fall h down j e. absurd cc;
}

-- ---- it is all that is asked of it

-- what is known of a cell behind the entry
pub record AroundNow (s : Script) (c : Cell) (past : List Entry) : Type 0 where
  pub asked : KnownAsked s c past
  pub truthful : Truthful s c past
  pub due : DueFacts s c past
  pub numbers : (j : ℕ) → IsNumbered j (c.clients j) (sent_of past)
  pub epochs : (j : ℕ) → epoch_after (Client j) (lines_of past) ≡ (c.clients j).epoch
  pub boots : (j : ℕ) → KnowsLocBoot s (Client j) (boot_of Loc (c.clients j).boots) past

in_order : (j : ℕ) (x : ClientState) (k : Seek) (sent : List Message) → x.seeking ≡ Some k → IsNumbered j x sent → IsInOrder (last_key j x) sent
in_order j x k sent z (inl e) = (let no : None ≡ Some k = sym e.1.1 ∙ z in absurd cc)
in_order j x k sent z (inr y) = y.1

own_question : (s : Script) (c : Cell) (past : List Entry) (j : ℕ) (head : Head) (user : List ℕ) (call : LocCall) → AroundNow s c past → IsTheSeek j (c.clients j) head user call → TakesAsk past head user call → OwnQuestion s (Client j) head user call past
own_question s c past j head user call F i turn =
    let x : ClientState = c.clients j in
    let A : AskedIn s c past = F.asked.1 in
    let told = F.asked.0.hears.told in
    let callees = F.asked.0.keys.callees in
    let q : IsSeeking s j x i.its past = A.seeks j i.its i.seeks in
    let own : user ≡ user_at s j = i.user' ∙ A.user j in
    record {
      own_user = own;
      act = i.its.act;
      runs = A.acts j ∙ seeks_act x i.its q.idle i.seeks;
      operand = i.its.operand;
      asks = i.asks;
      why = may_ask s c past [] j i.its.act i.its.operand F.truthful (asked_why s j i.its past i.its.left refl q.needs (λ left. F.due.1.1.1 j i.its left i.seeks) q.its);
      to = i.to;
      opcode = i.opcode;
      epoch = ap (λ (k : Key). k.epoch) i.key ∙ sym (F.epochs j);
      order = subst (λ (k : Key). IsInOrder k (sent_of past)) (sym i.key) (in_order j x i.its (sent_of past) i.seeks (F.numbers j));
      last = its_last callees c.clients j (called_key head) (sent_of past) i.key (subst (Each (IfCall (KnownBy callees c.clients))) (sym told) F.asked.0.keys.calls) (subst (Each (IfSeek (IsUpToLast c.clients))) (sym told) A.upto);
      turn = turn;
      known = subst (λ (b : ℕ). KnowsLocBoot s (Client j) b past) (sym i.boot) (F.boots j);
    }

-- ---- of whomever it is

node_is : (p q : Node) → actors.Node p ≡ actors.Node q → p ≡ q
node_is p q e = cc

of_node : (s : Script) (c : Cell) (past : List Entry) (who : Actor) (head : Head) (user : List ℕ) (call : LocCall) (n : Node) → who ≡ actors.Node n → AroundNow s c past
    → ((j : ℕ) → who ≡ actors.Node (Client j) → IsTheSeek j (c.clients j) head user call) → ((j : ℕ) → who ≡ actors.Node (Client j) → TakesAsk past head user call) → OwnQuestionOf s n head user call past
of_node s c past who head user call (Client j) by F its turns = own_question s c past j head user call F (its j by) (turns j by)
of_node s c past who head user call (Server i) by F its turns = tt
of_node s c past who head user call (Admin i) by F its turns = tt
of_node s c past who head user call Loc by F its turns = tt

abbrev pub IsOwnQuestion : Script → List Entry → Head → List ℕ → LocCall → Type 0
IsOwnQuestion s past head user call = OwnQuestionOf s head.from head user call past

of_message : (s : Script) (c : Cell) (past : List Entry) (who : Actor) (head : Head) (x : Carried) → who ≡ actors.Node head.from → AroundNow s c past
    → ((j : ℕ) → who ≡ actors.Node (Client j) → IfSeek (IsTheSeek j (c.clients j)) (record { head = head; carried = x })) → ((j : ℕ) → who ≡ actors.Node (Client j) → IfSeek (TakesAsk past) (record { head = head; carried = x })) → IfSeek (IsOwnQuestion s past) (record { head = head; carried = x })
of_message s c past who head (carried.Call user (ask.File call)) by F its turns = tt
of_message s c past who head (carried.Call user (ask.Volume call)) by F its turns = tt
of_message s c past who head (carried.Call user (ask.Location call)) by F its turns = of_node s c past who head user call head.from by F its turns
of_message s c past who head (carried.Refusal code) by F its turns = tt
of_message s c past who head (carried.Reply reply) by F its turns = tt
of_message s c past who head carried.Notice by F its turns = tt

-- each was sent by the node whose entry it is
abbrev pub AreBy : Actor → List Message → Type 0
AreBy who [] = ⊤
AreBy who (m ∷ ms) = (who ≡ actors.Node m.head.from) × AreBy who ms

pub own_questions : (s : Script) (c : Cell) (past : List Entry) (who : Actor) (ms : List Message) → AreBy who ms → AroundNow s c past
    → ((j : ℕ) → who ≡ actors.Node (Client j) → Each (IfSeek (IsTheSeek j (c.clients j))) ms) → ((j : ℕ) → who ≡ actors.Node (Client j) → Each (IfSeek (TakesAsk past)) ms) → Each (IfSeek (IsOwnQuestion s past)) ms
own_questions s c past who [] by F its turns = tt
own_questions s c past who (m ∷ ms) by F its turns = (of_message s c past who m.head m.carried by.0 F (λ j e. (its j e).0) (λ j e. (turns j e).0), own_questions s c past who ms by.1 F (λ j e. (its j e).1) (λ j e. (turns j e).1))
