use Rattle.std.proofs.Common.{◌≡◌, true, is_some, sym, ap, subst, ◌∙◌}
use Rattle.indexmap.specs.IndexMap.{get}
use Rattle.afs_promise.specs.declared.types.Holding.{Holding}
use Rattle.afs_promise.specs.Granting.{same_holding}
use Rattle.afs_promise.proofs.latest.remove.Goals as goal

pub overflow_sub-count : goal.overflow_sub-count
overflow_sub-count c = c.requires (subst (λ (k : Holding). is_some (get same_holding c.args.latest.now k) ≡ true) c.holding.ensures (sym (ap is_some c.swap_remove.ensures.value) ∙ (sym c.is_some.ensures ∙ c.if-is_some.true)))
