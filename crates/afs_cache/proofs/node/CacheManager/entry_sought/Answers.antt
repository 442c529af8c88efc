use Rattle.std.proofs.Common.{◌≡◌, ◌<◌, ◌+◌, ℕ, Bool, true, false, cond, ◌||◌, ◌&&◌, List, [], ◌∷◌, ◌++◌, map, filter, Option, Some, None, Ok, Err, refl, ap, sym, subst, ◌∙◌}
use Rattle.std.specs.Option.{option_copied}
use Rattle.afs_cache.proofs.Siting.{entry_when, entry_unless}
use Rattle.afs_cache.proofs.node.CacheManager.entry_sought.Goals as goal

pub returns-then-sought : goal.returns-then-sought
returns-then-sought c = c.entry_carried.ensures ∙ entry_when c.args.self.now.node c.args.self.now.state.client c.args.head.now c.args.carried.now c.args.self.now.state.client.seeking (sym c.if-sought.true ∙ c.is_sought-sought.ensures)

pub returns-else-sought : goal.returns-else-sought
returns-else-sought c = entry_unless c.args.self.now.node c.args.self.now.state.client c.args.head.now c.args.carried.now c.args.self.now.state.client.seeking (sym c.if-sought.false ∙ c.is_sought-sought.ensures)
