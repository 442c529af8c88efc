use Rattle.std.proofs.Common.{ap}
use Rattle.spec_adminrows.specs.Turns.{dead}
use Rattle.afs_mover.proofs.Behind.{behind_answered}
use Rattle.afs_mover.specs.Steps.{by_act, gives_up, turns_refused}
use Rattle.afs_mover.proofs.node.Mover.give_up.Goals as goal

pub returns : goal.returns
returns c =
    let old = c.args.self.now in
    behind_answered (by_act old.state (turns_refused old.node old.state dead) old.state.running) c.in_ok-lines.lines (gives_up old.node old.state old.state.running) old c.take_refusal.new.self c.take_refusal.result
    (ap (by_act old.state (turns_refused old.node old.state dead) old.state.running) c.in_ok-lines.ensures) c.take_refusal.ensures
