use Rattle.std.proofs.Common.{◌≡◌, ◌<◌, ◌+◌, ℕ, Bool, true, false, cond, ◌||◌, ◌&&◌, List, [], ◌∷◌, ◌++◌, map, filter, Option, Some, None, Ok, Err, refl, ap, sym, subst, ◌∙◌}
use Rattle.spec_rows.specs.Going.{Going}
use Rattle.spec_rows.specs.ClientRow.{takes_plain}
use Rattle.afs_cache.specs.Managing.{by_call}
use Rattle.afs_cache.proofs.Placing.{told_none}
use Rattle.afs_cache.proofs.node.CacheManager.take_plain.Goals as goal

pub returns : goal.returns
returns c =
    let old = c.args.self.now in
    told_none (λ (place : ℕ). by_call old.state.client place (λ (act : Going). takes_plain old.node old.state.client place) old.state.client.running) c.no_lines-lines.result old c.take_plain_behind.new.self c.take_plain_behind.result c.no_lines-lines.ensures c.take_plain_behind.ensures
