use Rattle.afs_cache.proofs.Planning.{plans_gifts}
use Rattle.afs_cache.proofs.node.CacheManager.plan_next.Goals as goal

pub returns-clause-plan : goal.returns-clause-plan
returns-clause-plan c = plans_gifts c.args.self.now c.args.going c.args.lines c.in_ok-gifts.gifts.items c.args.self.now.state.client.gifts c.plan_call.result c.in_ok-gifts.ensures.value c.plan_call.ensures.plan
