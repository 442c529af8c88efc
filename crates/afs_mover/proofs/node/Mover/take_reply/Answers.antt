use Rattle.std.proofs.Common.{◌∙◌}
use Rattle.spec_adminrows.specs.AdminRow.{turned}
use Rattle.afs_mover.proofs.Behind.{acted, idle}
use Rattle.afs_mover.proofs.Sent.{answered_same}
use Rattle.afs_mover.specs.Steps.{turns_answered}
use Rattle.afs_mover.proofs.node.Mover.take_reply.Goals as goal

pub returns-in_default : goal.returns-in_default
returns-in_default c =
    let old = c.args.self.now in
    idle (turns_answered old.node old.state c.args.reply.now) c.args.lines old old c.stay.result c.in_default.ensures c.stay.ensures

pub returns : goal.returns
returns c =
    let old = c.args.self.now in
    let r = c.in-Some.asking.now in
    acted (turns_answered old.node old.state c.args.reply.now) (λ ls. turned old.node old.state c.in_ok-act.act ls c.in_ok-turn.turn) r c.args.lines old c.turn.new.self c.turn.result c.in-Some.ensures
    (λ ls. answered_same old.node old.state r c.in_ok-act.act c.args.reply.now c.in_ok-turn.turn ls (c.in_ok-act.ensures ∙ c.act.ensures.value) c.in_ok-turn.ensures.value) c.turn.ensures
