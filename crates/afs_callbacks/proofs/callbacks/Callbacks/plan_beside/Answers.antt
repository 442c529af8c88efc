use Rattle.std.proofs.Common.{◌∙◌}
use Rattle.afs_server_parts.specs.Turning.{sent_turns}
use Rattle.afs_callbacks.specs.Answering.{with_lists}
use Rattle.afs_callbacks.specs.States.{backs_by}
use Rattle.afs_callbacks.proofs.Withdrawing.{sent_with}
use Rattle.afs_callbacks.proofs.Planned.{planned_as}
use Rattle.afs_callbacks.proofs.callbacks.Callbacks.plan_beside.Goals as goal

pub returns : goal.returns
returns c l owes =
    let b = backs_by c.args.self.now c.args.stand c.args.now in
    let is = sent_with c.args.sent c.args.breaks.now b l c.in_ok-turn.turn c.send_beside.new.turn c.in_ok-turn.ensures.turn owes c.in_ok-send_beside.ensures.turn in
    planned_as (sent_turns c.args.sent (with_lists l b)) c.args.stand _ _ (c.in_ok-send_beside.ensures.stand ∙ c.in_ok-turn.ensures.stand) is c.in_ok-ended.ensures
