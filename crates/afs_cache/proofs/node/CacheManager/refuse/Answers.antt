use Rattle.std.proofs.Common.{◌≡◌, ℕ, ◌+◌, ◌∷◌, ◌++◌, List, Some, None, ap, sym, ◌∙◌}
use Rattle.afs_cache.proofs.Replying.{later_taken, refused_taken}
use Rattle.afs_cache.proofs.node.CacheManager.refuse.Goals as goal

pub returns-then-again : goal.returns-then-again
returns-then-again c =
    let old = c.args.self.now in
    later_taken old.node old.state.client c.args.code old c.call_later.new.self c.call_later.result (sym c.if-again.true ∙ c.asks_again-again.ensures.value) c.call_later.ensures

pub returns-else-again : goal.returns-else-again
returns-else-again c =
    let old = c.args.self.now in
    refused_taken old.node old.state.client c.args.code old c.refuse_for_good.new.self c.refuse_for_good.result (sym c.if-again.false ∙ c.asks_again-again.ensures.value) c.refuse_for_good.ensures
