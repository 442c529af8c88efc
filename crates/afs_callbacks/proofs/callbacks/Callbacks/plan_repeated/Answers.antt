use Rattle.spec_rows.specs.Callbacks.{held_under, key_answered, repeats_by}
use Rattle.spec_rows.specs.States.{Backs}
use Rattle.afs_server_parts.specs.declared.turns.Stand.{Stand}
use Rattle.afs_callbacks.specs.States.{backs_by}
use Rattle.afs_callbacks.proofs.Planned.{planned}
use Rattle.afs_callbacks.proofs.callbacks.Callbacks.plan_repeated.Goals as goal

pub returns : goal.returns
returns c =
    planned (λ (s : Stand) (x : Backs). repeats_by x c.args.reply (held_under (key_answered c.args.reply) x.held) c.args.good) (backs_by c.args.self.now c.args.stand c.args.now) c.args.stand _ _ _ _
    c.in_ok-turn.ensures.turn c.in_ok-turn.ensures.stand c.in_ok-repeat.ensures c.in_ok-ended.ensures
