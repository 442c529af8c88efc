use Rattle.std.proofs.Common.{◌≡◌, ℕ, List, [], ◌∷◌, ◌++◌, Some, None, true, false, ap, map, filter, sym, ◌∙◌}
use Rattle.spec_rows.specs.Going.{ClientState, Going}
use Rattle.afs_cache.proofs.Replying.{awaited_taken, unawaited_taken}
use Rattle.afs_cache.proofs.node.CacheManager.hear.Goals as goal

pub returns-then-awaited : goal.returns-then-awaited
returns-then-awaited c = awaited_taken c.args.self.now.node c.args.self.now.state.client c.args.now c.args.head.now c.args.carried c.args.self.now c.count.new.self c.count.result (sym c.if-awaited.true ∙ c.is_awaited-awaited.ensures) c.count.ensures

pub returns-else-awaited : goal.returns-else-awaited
returns-else-awaited c = unawaited_taken c.args.self.now.node c.args.self.now.state.client c.args.now c.args.head.now c.args.carried c.args.self.now c.args.self.now c.ignore.result (sym c.if-awaited.false ∙ c.is_awaited-awaited.ensures) c.ignore.ensures.takes
