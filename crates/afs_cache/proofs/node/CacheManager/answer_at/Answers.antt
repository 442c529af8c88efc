use Rattle.std.proofs.Common.{◌≡◌, ◌<◌, ◌+◌, ℕ, Bool, true, false, cond, ◌||◌, ◌&&◌, List, [], ◌∷◌, ◌++◌, map, filter, Option, Some, None, Ok, Err, refl, ap, sym, subst, ◌∙◌}
use Rattle.afs_cache.proofs.Siting.{other_heard}
use Rattle.afs_cache.proofs.node.CacheManager.answer_at.Goals as goal

pub returns-in_default : goal.returns-in_default
returns-in_default c = other_heard c.args.now c.args.head.now c.args.carried c.args.round c.args.self.now c.take_guest.new.self c.take_guest.result c.in_default.not-Refusal c.in_default.not-Reply c.take_guest.ensures
