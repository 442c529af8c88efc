use Rattle.std.proofs.Common.{ap, ◌∙◌}
use Rattle.spec_history.specs.declared.scripts.AdminAct.{AdminAct}
use Rattle.spec_adminrows.specs.Acts.{begins_with}
use Rattle.spec_adminrows.specs.AdminRow.{admin_begin_row, dump_held, label_in, turned}
use Rattle.afs_mover.proofs.Behind.{behind_answered}
use Rattle.afs_mover.proofs.Sent.{begun_same}
use Rattle.afs_mover.proofs.node.Mover.begin.Goals as goal

pub returns : goal.returns
returns c =
    let old = c.args.self.now in
    let act = c.args.act.now in
    behind_answered (λ ls. turned old.node old.state act ls c.in_ok-turn.turn) c.in_ok-lines.lines (admin_begin_row old.node old.state act) old c.turn.new.self c.turn.result
    (begun_same old.node old.state act c.in_ok-lines.lines c.in_ok-turn.turn c.in_ok-lines.ensures
    (c.in_ok-turn.ensures.value ∙ ap (λ (x : AdminAct). begins_with x (dump_held (label_in x) old.state.dumps)) c.get.ensures)) c.turn.ensures
