use Rattle.afs_cache.proofs.Planning.{asking_made}
use Rattle.afs_cache.proofs.node.CacheManager.asks.Goals as goal

pub returns : goal.returns
returns c =
    asking_made c.args.self.now.node c.args.self.now.state.client c.args.asked c.args.lines c.callee-callee.result c.in_ok-outs.outs
    c.callee-callee.ensures.value c.callee-callee.ensures.node c.in_ok-outs.ensures.lines c.in_ok-outs.ensures.sent
