use Rattle.spec_adminrows.specs.AdminRow.{admin_begin_row}
use Rattle.afs_mover.proofs.Numbers.{answers_last, answers_lasting, begin_rises}
use Rattle.afs_mover.proofs.node.Mover.act.Goals as goal

pub returns-clause-last : goal.returns-clause-last
returns-clause-last c =
    let old = c.args.self.now in
    answers_last (admin_begin_row old.node old.state c.args.act.now) old c.begin.new.self c.begin.result (begin_rises old.node old.state c.args.act.now) c.begin.ensures

pub returns-clause-lasting : goal.returns-clause-lasting
returns-clause-lasting c =
    let old = c.args.self.now in
    answers_lasting (admin_begin_row old.node old.state c.args.act.now) old c.begin.new.self c.begin.result (begin_rises old.node old.state c.args.act.now) c.begin.ensures
