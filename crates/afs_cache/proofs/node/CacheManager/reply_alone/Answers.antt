use Rattle.std.proofs.Common.{◌≡◌, ℕ, List, [], ap}
use Rattle.spec_history.specs.declared.lines.Line.{Line}
use Rattle.spec_rows.specs.ClientRow.{replies_step}
use Rattle.afs_cache.proofs.Placing.{stills_same}
use Rattle.afs_cache.proofs.node.CacheManager.reply_alone.Goals as goal

pub returns : goal.returns
returns c =
    let st = c.args.self.now.state.client in
    stills_same (λ (place : ℕ). replies_step st place c.args.head.now c.new-lines.result c.args.carried) (λ (place : ℕ). replies_step st place c.args.head.now [] c.args.carried) c.args.self.now c.reply.new.self c.reply.result
    (λ place. ap (λ (ls : List Line). replies_step st place c.args.head.now ls c.args.carried) c.new-lines.ensures) c.reply.ensures
