-- Whether an act runs, and whose answer it waits for, by what the administrator says of its unanswered call.
use Rattle.std.proofs.Common.{refl, ap, sym, ◌∙◌, ◌≡◌, ℕ, true, false, Option, Some, None, is_some}
use Rattle.std.specs.Prelude.{IsSome}
use Rattle.afs_num.specs.declared.types.Key.{Key}
use Rattle.afs_num.specs.declared.types.Node.{Node}
use Rattle.spec_adminrows.specs.AdminRow.{waiting_on, AdminState}
use Rattle.spec_adminrows.specs.declared.turns.Running.{Running}
use Rattle.afs_mover.specs.Steps.{waits_by}
use Rattle.afs_schedule.specs.Schedules.{is_waiting_on}

busy_by : (me : Node) (a : AdminState) (running : Option Running) → is_some (waits_by me a running) ≡ is_some running
busy_by me a None = refl
busy_by me a (Some r) = refl

pub busy : (me : Node) (a : AdminState) (call : Option (Node × Key)) → call ≡ waits_by me a a.running → is_some call ≡ is_some a.running
busy me a call is = ap (λ (o : Option (Node × Key)). is_some o) is ∙ busy_by me a a.running

-- the callee of its call, if there is one
abbrev pub callee_in : Option (Node × Key) → Option Node
callee_in None = None
callee_in (Some call) = Some call.0

callee_by : (me : Node) (a : AdminState) (running : Option Running) → running ≡ a.running → callee_in (waits_by me a running) ≡ waiting_on a
callee_by me a None is = sym (ap (λ (o : Option Running). waiting_on (record a { running = o })) (sym is))
callee_by me a (Some r) is = sym (ap (λ (o : Option Running). waiting_on (record a { running = o })) (sym is))

pub waits_on : (me callee : Node) (a : AdminState) (call : Option (Node × Key)) → call ≡ waits_by me a a.running → is_waiting_on callee (callee_in call) ≡ is_waiting_on callee (waiting_on a)
waits_on me callee a call is = ap (is_waiting_on callee) (ap callee_in is ∙ callee_by me a a.running refl)

no_truth : false ≡ true → ⊥
no_truth e = absurd cc

runs_by : (a : AdminState) (callee : Node) (running : Option Running) → running ≡ a.running → is_waiting_on callee (waiting_on a) ≡ true → IsSome running
runs_by a callee None is waits = absurd (no_truth (ap (λ (o : Option Running). is_waiting_on callee (waiting_on (record a { running = o }))) is ∙ waits))
runs_by a callee (Some r) is waits = refl

-- an administrator that waits for a node runs an act
pub runs : (a : AdminState) (callee : Node) → is_waiting_on callee (waiting_on a) ≡ true → IsSome a.running
runs a callee waits = runs_by a callee a.running refl waits
