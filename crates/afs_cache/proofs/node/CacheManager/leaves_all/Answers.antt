use Rattle.std.proofs.Common.{rules, List, ◌∷◌, ◌++◌}
use Rattle.afs_cache.proofs.Planning.{left_made}
use Rattle.afs_cache.proofs.node.CacheManager.leaves_all.Goals as goal

pub returns-clause-plan : goal.returns-clause-plan
returns-clause-plan c = left_made c.args.self.now c.args.asked.now c.args.round.now c.args.lines c.quiet.result c.requires (search rules) (search rules)
