use Rattle.std.proofs.Common.{rules}
use Rattle.afs_cache.proofs.Planning.{plans_ending}
use Rattle.afs_cache.proofs.node.CacheManager.plan_ending.Goals as goal

pub returns-clause-plan : goal.returns-clause-plan
returns-clause-plan c = plans_ending c.args.self.now c.args.code c.args.lines c.quiet.result (search rules) (search rules)
