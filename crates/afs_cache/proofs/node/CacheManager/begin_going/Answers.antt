use Rattle.std.proofs.Common.{ap, sym, ◌∙◌}
use Rattle.afs_asking.specs.Asking.{is_giving}
use Rattle.afs_cache.proofs.Dropping.{begun_giving, begun_walking}
use Rattle.afs_cache.proofs.node.CacheManager.begin_going.Goals as goal

pub returns-then-gives : goal.returns-then-gives
returns-then-gives c =
    let old = c.args.self.now in
    begun_giving old.node old.state.client c.args.now c.args.going c.args.lines old c.begin_giving.new.self c.begin_giving.result (sym (c.is_giving-gives.ensures ∙ ap is_giving c.in_ok-need.ensures.value) ∙ c.if-gives.true) c.begin_giving.ensures

pub returns-else-gives : goal.returns-else-gives
returns-else-gives c =
    let old = c.args.self.now in
    begun_walking old.node old.state.client c.args.now c.args.going c.args.lines old c.begin_walking.new.self c.begin_walking.result (sym (c.is_giving-gives.ensures ∙ ap is_giving c.in_ok-need.ensures.value) ∙ c.if-gives.false) c.begin_walking.ensures
