use Rattle.spec_rows.specs.Callbacks.{settles}
use Rattle.afs_server_parts.specs.declared.turns.Stand.{Stand}
use Rattle.afs_callbacks.specs.States.{backs_by}
use Rattle.afs_callbacks.proofs.Planned.{planned}
use Rattle.afs_callbacks.proofs.callbacks.Callbacks.plan_settled.Goals as goal

pub returns : goal.returns
returns c =
    planned (λ (s : Stand). settles s.node c.args.node c.args.call.now) (backs_by c.args.self.now c.args.stand c.args.now) c.args.stand _ _ _ _ c.in_ok-turn.ensures.turn c.in_ok-turn.ensures.stand c.in_ok-settle.ensures c.in_ok-ended.ensures
