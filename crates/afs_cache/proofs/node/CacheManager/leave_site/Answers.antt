use Rattle.std.proofs.Common.{◌≡◌, ◌<◌, ◌+◌, ℕ, Bool, true, false, cond, ◌||◌, ◌&&◌, List, [], ◌∷◌, ◌++◌, map, filter, Option, Some, None, Ok, Err, refl, ap, sym, subst, ◌∙◌}
use Rattle.spec_history.specs.declared.lines.Line.TheVariants as lines
use Rattle.spec_rows.specs.Going.{Going}
use Rattle.spec_copyrows.specs.Sites.{calls_round, Round}
use Rattle.afs_cache.specs.Rounds.{OfAct}
use Rattle.afs_cache.proofs.node.CacheManager.leave_site.Goals as goal

pub returns : goal.returns
returns c =
    let old = c.args.self.now in
    subst (λ (r : Round). OfAct (λ (place : ℕ) (act : Going). calls_round old.node old.state act r (lines.Given place ∷ [])) old c.call_round.new.self c.call_round.result) c.leave.ensures c.call_round.ensures
