use Rattle.afs_cache.proofs.Planning.{plans_seeking}
use Rattle.afs_cache.proofs.node.CacheManager.plan_seeking.Goals as goal

pub returns-clause-plan : goal.returns-clause-plan
returns-clause-plan c =
    plans_seeking c.args.self.now (record { act = c.args.going; operand = c.args.operand; left = c.args.left }) c.args.lines (record { seeking = c.in_ok-seeking.seeking; outs = c.in_ok-outs.outs })
    c.in_ok-seeking.ensures c.in_ok-outs.ensures.lines c.in_ok-outs.ensures.sent
