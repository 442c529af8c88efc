use Rattle.std.proofs.Common.{◌≡◌, ℕ, ◌+◌, ◌∷◌, ◌++◌, List, Some, None, ap, sym, ◌∙◌}
use Rattle.afs_cache.proofs.Sought.{seeks_for, sought_taken, unsought_taken}
use Rattle.afs_cache.proofs.node.CacheManager.take_guest.Goals as goal

pub hear_database-requires-clause-seeks : goal.hear_database-requires-clause-seeks
hear_database-requires-clause-seeks c =
    let old = c.args.self.now in
    seeks_for old.node old.state.client c.args.head.now c.args.carried old.state.client.seeking (sym c.if-sought.true ∙ c.is_sought-sought.ensures)

pub returns-then-sought : goal.returns-then-sought
returns-then-sought c =
    let old = c.args.self.now in
    sought_taken old.node c.args.now c.args.head.now c.args.carried old c.hear_database.new.self c.hear_database.result (sym c.if-sought.true ∙ c.is_sought-sought.ensures) c.hear_database.ensures

pub returns-else-sought : goal.returns-else-sought
returns-else-sought c =
    let old = c.args.self.now in
    unsought_taken old.node old.state.client c.args.now c.args.head.now c.args.carried old c.take_whole.new.self c.take_whole.result (sym c.if-sought.false ∙ c.is_sought-sought.ensures) c.take_whole.ensures
