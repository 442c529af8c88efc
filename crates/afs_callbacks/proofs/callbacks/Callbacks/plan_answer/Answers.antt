use Rattle.std.proofs.Common.{[], false}
use Rattle.afs_callbacks.specs.States.{backs_by}
use Rattle.afs_callbacks.proofs.Planned.{answered}
use Rattle.afs_callbacks.proofs.callbacks.Callbacks.plan_answer.Goals as goal
use Rattle.afs_server_parts.specs.Turning.{answer_turn}

pub returns : goal.returns
returns c l owes =
    answered (answer_turn c.args.reply [] false) (backs_by c.args.self.now c.args.stand c.args.now) c.args.stand l _ _ _ _ c.in_ok-turn.ensures.turn c.in_ok-turn.ensures.stand owes
    c.in_ok-answer_now.ensures c.in_ok-ended.ensures
