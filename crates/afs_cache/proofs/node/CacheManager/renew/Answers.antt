use Rattle.std.proofs.Common.{◌≡◌, ◌<◌, ◌+◌, ℕ, Bool, true, false, cond, ◌||◌, ◌&&◌, List, [], ◌∷◌, ◌++◌, map, filter, Option, Some, None, Ok, Err, refl, ap, sym, subst, ◌∙◌}
use Rattle.std.specs.Prelude.{IfOk}
use Rattle.spec_rows.specs.Going.{Seek}
use Rattle.afs_cache.proofs.Siting.{renewed_ok}
use Rattle.afs_cache.proofs.node.CacheManager.renew.Goals as goal

pub returns : goal.returns
returns c = renewed_ok c.args.table.now c.sought.result.now c.args.self.now.state.client.seeking c.renewed.result c.sought.ensures c.renewed.ensures
