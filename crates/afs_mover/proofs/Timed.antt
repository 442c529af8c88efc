-- What a timeout does, by how many there were.
use Rattle.std.proofs.Common.{◌≡◌, true, false, Option, Some, None, Result, Ok, Err, refl, subst}
use Rattle.afs_num.specs.declared.types.Node.{Node}
use Rattle.spec_history.specs.declared.lines.Outs.{Outs}
use Rattle.spec_model.specs.Calls.{is_sent_again}
use Rattle.spec_model.specs.Steps.{NodeState}
use Rattle.spec_rows.specs.Steps.{Step}
use Rattle.spec_adminrows.specs.AdminRow.{AdminState, admin_timeout_row, ask_of, sends_again}
use Rattle.spec_adminrows.specs.declared.turns.Running.{Running}
use Rattle.afs_calling.specs.Stepping.{Answers, Makes}
use Rattle.afs_mover.proofs.Heard.{left_if, taken_if}
use Rattle.afs_mover.specs.Steps.{gives_up, sends_late, times_out}

pub again_same : (me : Node) (a : AdminState) (running : Option Running) → is_sent_again a.tries ≡ true → sends_late me a running ≡ times_out me a running
unfolding admin_timeout_row
again_same me a None h = refl
again_same me a (Some r) h = taken_if (is_sent_again a.tries) (sends_again me a (ask_of a r)) _ h

pub dead_same : (me : Node) (a : AdminState) (running : Option Running) → is_sent_again a.tries ≡ false → gives_up me a running ≡ times_out me a running
unfolding admin_timeout_row
dead_same me a None h = refl
dead_same me a (Some r) h = left_if (is_sent_again a.tries) (sends_again me a (ask_of a r)) _ h

pub step_as : {E : Type 0} (step other : Step AdminState) (old new : NodeState AdminState) (r : Result Outs E) → step ≡ other → Answers step old new r → Answers other old new r
step_as step other old new (Ok outs) same h = (h.0, subst (λ (s : Step AdminState). Makes s new.state (λ ls. ls) outs) same h.1)
step_as step other old new (Err e) same h = h
