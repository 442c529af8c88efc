-- What a step of an administrator leaves: how many servers it knows of and its epoch stay; and it draws one number at most.
use Rattle.std.proofs.Common.{◌≡◌, ◌≤◌, ◌+◌, ℕ, Bool, true, false, cond, List, [], Option, Some, None, Result, Ok, Err, refl, ap, subst, sym, ◌∙◌, arith}
use Rattle.std.specs.Prelude.{OnOk}
use Rattle.spec_history.specs.declared.lines.Line.{Line}
use Rattle.spec_history.specs.declared.lines.Outs.{Outs}
use Rattle.spec_history.specs.declared.scripts.AdminAct.{AdminAct}
use Rattle.afs_num.specs.Nodes.{same_node}
use Rattle.afs_num.specs.declared.messages.Carried.{Carried}
use Rattle.afs_num.specs.declared.messages.Carried.TheVariants as carried
use Rattle.afs_num.specs.declared.messages.Message.{Message}
use Rattle.afs_num.specs.declared.messages.Received.{Received}
use Rattle.afs_num.specs.declared.messages.Received.TheVariants.{Nothing, Unserved, Unreadable, Whole}
use Rattle.afs_num.specs.declared.types.Head.{Head}
use Rattle.afs_num.specs.declared.types.Node.{Node}
use Rattle.spec_model.specs.Calls.{Admitted, admitted, is_sent_again}
use Rattle.spec_model.specs.Calls as pairs
use Rattle.spec_model.specs.Steps.{NodeState}
use Rattle.spec_rows.specs.Steps.{Step}
use Rattle.spec_adminrows.specs.Acts.{answered, begins_with, refused}
use Rattle.spec_adminrows.specs.AdminRow.{AdminState, admin_begin_row, admin_row, admin_timeout_row, admits, ask_of, awaits, called, dump_held, errand_of, gets, hears, is_awaited, label_in, sends_again, takes_in, told, turned}
use Rattle.spec_adminrows.specs.Turns.{dead}
use Rattle.spec_adminrows.specs.declared.turns.Running.{Running}
use Rattle.spec_adminrows.specs.declared.turns.Turn.{Turn}
use Rattle.spec_adminrows.specs.declared.turns.Turn.TheVariants as turns
use Rattle.afs_calling.specs.Stepping.{Answers, Takes}
use Rattle.afs_mover.specs.Steps.{lasting, times_out}

-- what lasts stays, and the last number rises by one at most
abbrev pub Rises : AdminState → Step AdminState → Type 0
Rises a s = (lasting s.state ≡ lasting a) × (s.state.last ≤ a.last + 1)

stays : (n : ℕ) → n ≤ n + 1
stays n = omega arith

rises : (n : ℕ) → n + 1 ≤ n + 1
rises n = omega arith

either : (a : AdminState) (b : Bool) (s t : Step AdminState) → Rises a s → Rises a t → Rises a (cond b s t)
either a true s t h k = h
either a false s t h k = k

turned_rises : (me : Node) (a : AdminState) (act : AdminAct) (ls : List Line) (t : Turn) → Rises a (turned me a act ls t)
turned_rises me a act ls (turns.Goes p) = (refl, rises a.last)
turned_rises me a act ls (turns.Keeps label bytes p) = (refl, rises a.last)
turned_rises me a act ls (turns.Ends code) = (refl, stays a.last)
turned_rises me a act ls (turns.Sticks code) = (refl, stays a.last)
turned_rises me a act ls turns.Passes = (refl, stays a.last)

admits_rises : (a : AdminState) (place : ℕ) (head : Head) (d : Admitted Message) → Rises a (admits a place head d)
admits_rises a place head pairs.runs = (refl, stays a.last)
admits_rises a place head (pairs.kept reply) = (refl, stays a.last)
admits_rises a place head pairs.in_progress = (refl, stays a.last)
admits_rises a place head pairs.older = (refl, stays a.last)
admits_rises a place head (pairs.wrong_boot boot) = (refl, stays a.last)

called_rises : (a : AdminState) (place : ℕ) (head : Head) → Rises a (called a place head)
called_rises a place head = admits_rises a place head (admitted a.epoch a.seats head)

hears_rises : (me : Node) (a : AdminState) (place : ℕ) (r : Running) (head : Head) (x : Carried) → Rises a (hears me a place r head x)
hears_rises me a place r head (carried.Call user call) = (refl, stays a.last)
hears_rises me a place r head (carried.Refusal code) = turned_rises me a r.act _ (refused r.place code)
hears_rises me a place r head (carried.Reply reply) = turned_rises me a r.act _ (answered (errand_of a r.act) r.place reply)
hears_rises me a place r head carried.Notice = (refl, stays a.last)

awaits_rises : (me : Node) (a : AdminState) (place : ℕ) (head : Head) (x : Carried) (running : Option Running) → Rises a (awaits me a place head x running)
awaits_rises me a place head x None = (refl, stays a.last)
awaits_rises me a place head x (Some r) = either a (is_awaited a head (ask_of a r)) (hears me a place r head x) (told a place []) (hears_rises me a place r head x) (refl, stays a.last)

gets_rises : (me : Node) (a : AdminState) (place : ℕ) (head : Head) (x : Carried) → Rises a (gets me a place head x)
gets_rises me a place head (carried.Call user call) = called_rises a place head
gets_rises me a place head (carried.Refusal code) = awaits_rises me a place head (carried.Refusal code) a.running
gets_rises me a place head (carried.Reply reply) = awaits_rises me a place head (carried.Reply reply) a.running
gets_rises me a place head carried.Notice = awaits_rises me a place head carried.Notice a.running

takes_rises : (me : Node) (a : AdminState) (place : ℕ) (m : Received) → Rises a (takes_in me a place m)
takes_rises me a place Nothing = (refl, stays a.last)
takes_rises me a place (Unserved head) = either a (same_node head.to me) (called a place head) (told a place []) (called_rises a place head) (refl, stays a.last)
takes_rises me a place (Unreadable head) = either a (same_node head.to me) (called a place head) (told a place []) (called_rises a place head) (refl, stays a.last)
takes_rises me a place (Whole m) = either a (same_node m.head.to me) (gets me a place m.head m.carried) (told a place []) (gets_rises me a place m.head m.carried) (refl, stays a.last)

pub row_rises : (me : Node) (a : AdminState) (place : ℕ) (m : Received) → Rises a (admin_row me a place m)
unfolding admin_row
row_rises me a place m = takes_rises me a place m

pub begin_rises : (me : Node) (a : AdminState) (act : AdminAct) → Rises a (admin_begin_row me a act)
unfolding admin_begin_row
begin_rises me a act = turned_rises me a act _ (begins_with act (dump_held (label_in act) a.dumps))

pub timeout_rises : (me : Node) (a : AdminState) (running : Option Running) → Rises a (times_out me a running)
unfolding admin_timeout_row
timeout_rises me a None = (refl, stays a.last)
timeout_rises me a (Some r) = either a (is_sent_again a.tries) (sends_again me a (ask_of a r)) _ (refl, stays a.last) (turned_rises me a r.act _ (refused r.place dead))

-- ---- so it is of what the calls promise

pub answers_last : {E : Type 0} (step : Step AdminState) (old new : NodeState AdminState) (r : Result Outs E) → Rises old.state step → Answers step old new r → OnOk r (new.state.last ≤ old.state.last + 1)
answers_last step old new (Ok outs) rises h = subst (λ (a : AdminState). a.last ≤ old.state.last + 1) (sym h.1.state) rises.1
answers_last step old new (Err e) rises h = tt

pub answers_lasting : {E : Type 0} (step : Step AdminState) (old new : NodeState AdminState) (r : Result Outs E) → Rises old.state step → Answers step old new r → lasting new.state ≡ lasting old.state
answers_lasting step old new (Ok outs) rises h = ap lasting h.1.state ∙ rises.0
answers_lasting step old new (Err e) rises h = ap (λ (n : NodeState AdminState). lasting n.state) h

pub takes_last : {E : Type 0} (step : ℕ → Step AdminState) (old new : NodeState AdminState) (r : Result Outs E) → ((place : ℕ) → Rises old.state (step place)) → Takes step old new r → OnOk r (new.state.last ≤ old.state.last + 1)
takes_last step old new (Ok outs) rises h = subst (λ (a : AdminState). a.last ≤ old.state.last + 1) (sym (h.1 0).state) (rises 0).1
takes_last step old new (Err e) rises h = tt

pub takes_lasting : {E : Type 0} (step : ℕ → Step AdminState) (old new : NodeState AdminState) (r : Result Outs E) → ((place : ℕ) → Rises old.state (step place)) → Takes step old new r → lasting new.state ≡ lasting old.state
takes_lasting step old new (Ok outs) rises h = ap lasting (h.1 0).state ∙ (rises 0).0
takes_lasting step old new (Err e) rises h = ap (λ (n : NodeState AdminState). lasting n.state) h
