use Rattle.afs_mover.proofs.Numbers.{answers_last, answers_lasting, timeout_rises}
use Rattle.afs_mover.specs.Steps.{times_out}
use Rattle.afs_mover.proofs.node.Mover.timeout.Goals as goal

pub returns-clause-last : goal.returns-clause-last
returns-clause-last c =
    let old = c.args.self.now in
    answers_last (times_out old.node old.state old.state.running) old c.time_out.new.self c.time_out.result (timeout_rises old.node old.state old.state.running) c.time_out.ensures

pub returns-clause-lasting : goal.returns-clause-lasting
returns-clause-lasting c =
    let old = c.args.self.now in
    answers_lasting (times_out old.node old.state old.state.running) old c.time_out.new.self c.time_out.result (timeout_rises old.node old.state old.state.running) c.time_out.ensures
