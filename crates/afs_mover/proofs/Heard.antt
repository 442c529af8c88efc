-- What answers the unanswered call.
use Rattle.std.proofs.Common.{◌≡◌, ℕ, Bool, true, false, cond, ◌&&◌, List, [], ◌∷◌, Option, Some, None, Result, ap, refl, sym, ◌∙◌}
use Rattle.spec_history.specs.declared.lines.Line.{Line}
use Rattle.spec_history.specs.declared.lines.Line.TheVariants as lines
use Rattle.spec_history.specs.declared.lines.Outs.{Outs}
use Rattle.afs_num.specs.Nodes.{same_node}
use Rattle.afs_num.specs.declared.messages.Carried.{Carried}
use Rattle.afs_num.specs.declared.messages.Carried.TheVariants as carried
use Rattle.afs_num.specs.declared.messages.Message.{Message}
use Rattle.afs_num.specs.declared.messages.Received.{Received}
use Rattle.afs_num.specs.declared.messages.Received.TheVariants.{Unserved, Whole}
use Rattle.afs_num.specs.declared.types.Head.{Head}
use Rattle.afs_num.specs.declared.types.Node.{Node}
use Rattle.spec_model.proofs.Basics.{same_node-true}
use Rattle.spec_model.specs.Steps.{NodeState}
use Rattle.spec_rows.specs.Steps.{Step}
use Rattle.spec_adminrows.specs.AdminRow.{AdminState, admin_row, ask_message, ask_of, awaits, called, gets, hears, is_awaited, knows_boot, takes_in, told}
use Rattle.spec_adminrows.specs.declared.turns.Running.{Running}
use Rattle.afs_calling.specs.Stepping.{Takes}
use Rattle.afs_calling.proofs.Stepping.{takes_same}
use Rattle.afs_mover.specs.Steps.{awaited_by, Behind, by_act, heard_by}
use Rattle.afs_mover.proofs.Behind.{behind_taken}

first_true : (a b : Bool) → (a && b) ≡ true → a ≡ true
first_true true b h = refl
first_true false b h = absurd cc

-- it comes from the callee
from_callee : (a : AdminState) (r : Running) (head : Head) → is_awaited a head (ask_of a r) ≡ true → (ask_of a r).callee ≡ head.from
from_callee a r head h = sym (same_node-true head.from (ask_of a r).callee (first_true _ _ h))

boot_as : (me : Node) (a : AdminState) (r : Running) (place boot : ℕ) (callee : Node) → callee ≡ (ask_of a r).callee
    → told (knows_boot a (ask_of a r).callee boot) place (ask_message me (knows_boot a (ask_of a r).callee boot) (ask_of a r) ∷ []) ≡ told (knows_boot a callee boot) place (ask_message me (knows_boot a callee boot) (ask_of a r) ∷ [])
boot_as me a r place boot callee same = ap (λ (n : Node). told (knows_boot a n boot) place (ask_message me (knows_boot a n boot) (ask_of a r) ∷ [])) (sym same)

hears_as : (me : Node) (a : AdminState) (place : ℕ) (r : Running) (head : Head) (x : Carried) → is_awaited a head (ask_of a r) ≡ true → heard_by me a head.boot x r (lines.Given place ∷ []) ≡ hears me a place r head x
hears_as me a place r head (carried.Call user call) h = refl
hears_as me a place r head (carried.Refusal code) h = refl
hears_as me a place r head (carried.Reply reply) h = refl
hears_as me a place r head carried.Notice h = boot_as me a r place head.boot head.from (sym (from_callee a r head h))

-- by the test
pub taken_if : (b : Bool) (s t : Step AdminState) → b ≡ true → s ≡ cond b s t
taken_if true s t h = refl
taken_if false s t h = absurd cc

pub left_if : (b : Bool) (s t : Step AdminState) → b ≡ false → t ≡ cond b s t
left_if true s t h = absurd cc
left_if false s t h = refl

awaited_as : (me : Node) (a : AdminState) (place : ℕ) (head : Head) (x : Carried) (running : Option Running) → awaited_by a head running ≡ true → by_act a (heard_by me a head.boot x) running (lines.Given place ∷ []) ≡ awaits me a place head x running
awaited_as me a place head x None h = absurd cc
awaited_as me a place head x (Some r) h = hears_as me a place r head x h ∙ taken_if (is_awaited a head (ask_of a r)) (hears me a place r head x) (told a place []) h

unawaited_as : (me : Node) (a : AdminState) (place : ℕ) (head : Head) (x : Carried) (running : Option Running) → awaited_by a head running ≡ false → told a place [] ≡ awaits me a place head x running
unawaited_as me a place head x None h = refl
unawaited_as me a place head x (Some r) h = left_if (is_awaited a head (ask_of a r)) (hears me a place r head x) (told a place []) h

pub awaited_taken : {E : Type 0} (head : Head) (x : Carried) (before : List Line) (old new : NodeState AdminState) (result : Result Outs E)
    → awaited_by old.state head old.state.running ≡ true → before ≡ [] → Behind (by_act old.state (heard_by old.node old.state head.boot x) old.state.running) before old new result
    → Takes (λ place. awaits old.node old.state place head x old.state.running) old new result
awaited_taken head x before old new result is none h =
    takes_same (λ (place : ℕ). by_act old.state (heard_by old.node old.state head.boot x) old.state.running (lines.Given place ∷ [])) (λ (place : ℕ). awaits old.node old.state place head x old.state.running) old new result
    (λ place. awaited_as old.node old.state place head x old.state.running is)
    (behind_taken (by_act old.state (heard_by old.node old.state head.boot x) old.state.running) before old new result none h)

pub unawaited_taken : {E : Type 0} (head : Head) (x : Carried) (old : NodeState AdminState) (result : Result Outs E)
    → awaited_by old.state head old.state.running ≡ false → Takes (λ place. told old.state place []) old old result → Takes (λ place. awaits old.node old.state place head x old.state.running) old old result
unawaited_taken head x old result isnt h =
    takes_same (λ (place : ℕ). told old.state place []) (λ (place : ℕ). awaits old.node old.state place head x old.state.running) old old result (λ place. unawaited_as old.node old.state place head x old.state.running isnt) h

-- ---- to whom it is

pub unaddressed_message : {E : Type 0} (m : Message) (old : NodeState AdminState) (result : Result Outs E)
    → same_node m.head.to old.node ≡ false → Takes (λ place. told old.state place []) old old result → Takes (λ place. takes_in old.node old.state place (Whole m)) old old result
unaddressed_message m old result other h =
    takes_same (λ (place : ℕ). told old.state place []) (λ (place : ℕ). takes_in old.node old.state place (Whole m)) old old result
    (λ place. left_if (same_node m.head.to old.node) (gets old.node old.state place m.head m.carried) (told old.state place []) other) h

pub addressed_message : {E : Type 0} (m : Message) (old new : NodeState AdminState) (result : Result Outs E)
    → same_node m.head.to old.node ≡ true → Takes (λ place. gets old.node old.state place m.head m.carried) old new result → Takes (λ place. takes_in old.node old.state place (Whole m)) old new result
addressed_message m old new result mine h =
    takes_same (λ (place : ℕ). gets old.node old.state place m.head m.carried) (λ (place : ℕ). takes_in old.node old.state place (Whole m)) old new result
    (λ place. taken_if (same_node m.head.to old.node) (gets old.node old.state place m.head m.carried) (told old.state place []) mine) h

pub unaddressed_call : {E : Type 0} (head : Head) (old : NodeState AdminState) (result : Result Outs E)
    → same_node head.to old.node ≡ false → Takes (λ place. told old.state place []) old old result → Takes (λ place. takes_in old.node old.state place (Unserved head)) old old result
unaddressed_call head old result other h =
    takes_same (λ (place : ℕ). told old.state place []) (λ (place : ℕ). takes_in old.node old.state place (Unserved head)) old old result
    (λ place. left_if (same_node head.to old.node) (called old.state place head) (told old.state place []) other) h

pub addressed_call : {E : Type 0} (head : Head) (old new : NodeState AdminState) (result : Result Outs E)
    → same_node head.to old.node ≡ true → Takes (λ place. called old.state place head) old new result → Takes (λ place. takes_in old.node old.state place (Unserved head)) old new result
addressed_call head old new result mine h =
    takes_same (λ (place : ℕ). called old.state place head) (λ (place : ℕ). takes_in old.node old.state place (Unserved head)) old new result
    (λ place. taken_if (same_node head.to old.node) (called old.state place head) (told old.state place []) mine) h

-- ---- the row

row_is : (me : Node) (a : AdminState) (place : ℕ) (m n : Received) → m ≡ n → takes_in me a place m ≡ admin_row me a place n
unfolding admin_row
row_is me a place m n same = ap (takes_in me a place) same

pub heard : {E : Type 0} (m n : Received) (old new : NodeState AdminState) (result : Result Outs E) → m ≡ n → Takes (λ place. takes_in old.node old.state place m) old new result → Takes (λ place. admin_row old.node old.state place n) old new result
heard m n old new result same h =
    takes_same (λ (place : ℕ). takes_in old.node old.state place m) (λ (place : ℕ). admin_row old.node old.state place n) old new result (λ place. row_is old.node old.state place m n same) h
