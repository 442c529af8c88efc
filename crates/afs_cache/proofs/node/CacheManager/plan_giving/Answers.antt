use Rattle.std.proofs.Common.{rules}
use Rattle.afs_cache.proofs.Planning.{plans_given, plans_giving}
use Rattle.afs_cache.proofs.node.CacheManager.plan_giving.Goals as goal

pub returns-then-is_empty-clause-plan : goal.returns-then-is_empty-clause-plan
returns-then-is_empty-clause-plan c = plans_given c.args.self.now c.args.going c.args.gifts.items c.args.lines c.plan_ending.result (search rules) c.plan_ending.ensures.plan

pub returns-else-is_empty-clause-plan : goal.returns-else-is_empty-clause-plan
returns-else-is_empty-clause-plan c = plans_giving c.args.self.now c.args.going c.args.gifts.items c.args.lines c.plan_asking.result (search rules) c.plan_asking.ensures.plan
