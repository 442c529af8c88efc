use Rattle.afs_cache.proofs.Planning.{site_made}
use Rattle.afs_cache.proofs.node.CacheManager.asks_site.Goals as goal

pub returns-clause-plan : goal.returns-clause-plan
returns-clause-plan c = site_made c.args.self.now c.args.asked c.args.round c.args.lines c.args.site c.in_ok-outs.outs c.requires.site c.in_ok-outs.ensures.lines c.in_ok-outs.ensures.sent

pub returns-clause-follows : goal.returns-clause-follows
returns-clause-follows c = (c.requires.node, c.requires.last)
