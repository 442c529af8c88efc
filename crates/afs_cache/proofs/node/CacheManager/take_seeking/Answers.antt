use Rattle.std.proofs.Common.{◌≡◌, ◌<◌, ◌+◌, ℕ, Bool, true, false, cond, ◌||◌, ◌&&◌, List, [], ◌∷◌, ◌++◌, map, filter, Option, Some, None, Ok, Err, refl, ap, sym, subst, ◌∙◌}
use Rattle.afs_cache.proofs.Siting.{renewed_taken, unrenewed_taken}
use Rattle.afs_cache.proofs.node.CacheManager.take_seeking.Goals as goal

pub returns-in-Some : goal.returns-in-Some
returns-in-Some c = renewed_taken c.args.now (record { head = c.args.head.now; carried = c.args.carried }) c.in-Some.seeking c.args.self.now c.take_renewed.new.self c.take_renewed.result (sym c.in-Some.is ∙ c.in_ok-seeking.ensures) c.take_renewed.ensures

pub returns-in-None : goal.returns-in-None
returns-in-None c = unrenewed_taken c.args.now (record { head = c.args.head.now; carried = c.args.carried }) c.args.self.now c.take_guest.new.self c.take_guest.result c.requires.seeks (sym c.in-None.is ∙ c.in_ok-seeking.ensures) c.take_guest.ensures
