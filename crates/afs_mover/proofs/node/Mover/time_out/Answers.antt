use Rattle.std.proofs.Common.{ap, sym, ◌∙◌}
use Rattle.spec_model.specs.Calls.{is_sent_again}
use Rattle.afs_mover.proofs.Timed.{again_same, dead_same, step_as}
use Rattle.afs_mover.specs.Steps.{gives_up, sends_late, times_out}
use Rattle.afs_mover.proofs.node.Mover.time_out.Goals as goal

pub returns-in-Again : goal.returns-in-Again
returns-in-Again c =
    let old = c.args.self.now in
    step_as (sends_late old.node old.state old.state.running) (times_out old.node old.state old.state.running) old c.send_again.new.self c.send_again.result
    (again_same old.node old.state old.state.running (ap is_sent_again (sym c.tries-tries.ensures.value) ∙ c.in-Again.ensures.0)) c.send_again.ensures

pub returns-in-Dead : goal.returns-in-Dead
returns-in-Dead c =
    let old = c.args.self.now in
    step_as (gives_up old.node old.state old.state.running) (times_out old.node old.state old.state.running) old c.give_up.new.self c.give_up.result
    (dead_same old.node old.state old.state.running (ap is_sent_again (sym c.tries-tries.ensures.value) ∙ c.in-Dead.ensures)) c.give_up.ensures
