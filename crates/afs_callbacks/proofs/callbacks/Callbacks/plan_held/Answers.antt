use Rattle.std.proofs.Common.{◌++◌, false, ◌∙◌}
use Rattle.spec_breaks.specs.Promises.{lasting_breaks}
use Rattle.spec_rows.specs.Callbacks.{alls, break_numbers}
use Rattle.afs_callbacks.specs.Answering.{with_lists}
use Rattle.afs_callbacks.specs.States.{backs_by}
use Rattle.afs_callbacks.proofs.Holding.{held_with}
use Rattle.afs_callbacks.proofs.Planned.{planned_as}
use Rattle.afs_callbacks.proofs.callbacks.Callbacks.plan_held.Goals as goal
use Rattle.afs_server_parts.specs.Turning.{answer_turn}

pub returns : goal.returns
returns c l owes =
    let b = backs_by c.args.self.now c.args.stand c.args.now in
    let waits = break_numbers c.args.breaks.now ++ alls (lasting_breaks c.args.now c.args.self.now.lists.owed) in
    let is = held_with c.args.reply c.args.breaks.now b l c.in_ok-turn.turn c.hold.new.turn c.in_ok-turn.ensures.turn owes c.in_ok-hold.ensures.turn in
    planned_as (answer_turn c.args.reply waits false (with_lists l b)) c.args.stand _ _ (c.in_ok-hold.ensures.stand ∙ c.in_ok-turn.ensures.stand) is c.in_ok-ended.ensures
