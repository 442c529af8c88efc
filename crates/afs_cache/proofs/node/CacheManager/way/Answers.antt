use Rattle.std.proofs.Common.{subst}
use Rattle.std.specs.Option.{option_copied}
use Rattle.spec_model.specs.Steps.{NodeState}
use Rattle.spec_rows.specs.Going.{ClientState}
use Rattle.afs_asking.specs.Looking.{HasWalked}
use Rattle.spec_copyrows.specs.Sites.{CopyState}
use Rattle.afs_cache.specs.Acting.{seen_with, whole_walk}
use Rattle.afs_cache.proofs.Planning.{way_planned}
use Rattle.afs_cache.proofs.node.CacheManager.way.Goals as goal

pub returns : goal.returns
returns c =
    let fresh = option_copied c.args.fresh in
    let old = c.args.self.now in
    way_planned old (whole_walk c.args.now c.args.going (seen_with old.state.client fresh)) (seen_with old.state.client fresh) c.args.lines c.walk.new.lines c.in_ok-going.field-0 c.in_ok-plan.plan
    (subst (λ (s : NodeState CopyState). HasWalked s.node (seen_with s.state.client fresh) (whole_walk c.args.now c.args.going (seen_with s.state.client fresh)) c.args.lines c.in_ok-going.field-0 c.walk.new.lines) c.self.view_is c.in_ok-going.ensures)
    c.in_ok-plan.ensures.plan c.in_ok-plan.ensures.follows
