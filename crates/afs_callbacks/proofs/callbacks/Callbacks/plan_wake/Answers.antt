use Rattle.spec_rows.specs.Callbacks.{no_turn}
use Rattle.afs_callbacks.specs.States.{backs_by}
use Rattle.afs_callbacks.proofs.Planned.{planned_as}
use Rattle.afs_callbacks.proofs.callbacks.Callbacks.plan_wake.Goals as goal

pub returns : goal.returns
returns c = planned_as (no_turn (backs_by c.args.self.now c.args.stand c.args.now)) c.args.stand _ _ c.in_ok-turn.ensures.stand c.in_ok-turn.ensures.turn c.in_ok-ended.ensures
