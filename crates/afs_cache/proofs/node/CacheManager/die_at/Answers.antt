use Rattle.std.proofs.Common.{◌≡◌, ◌<◌, ◌+◌, ℕ, Bool, true, false, cond, ◌||◌, ◌&&◌, List, [], ◌∷◌, ◌++◌, map, filter, Option, Some, None, Ok, Err, refl, ap, sym, subst, ◌∙◌}
use Rattle.spec_model.specs.Steps.{NodeState}
use Rattle.afs_num.specs.declared.types.Fid.{Fid}
use Rattle.spec_rows.specs.Going.{Going}
use Rattle.spec_copyrows.specs.Sites.{CopyState}
use Rattle.afs_entries.specs.Cached.{unlisted}
use Rattle.afs_cache.specs.Acting.{but_for_these, followed}
use Rattle.afs_cache.proofs.Dropping.{changed_view}
use Rattle.afs_cache.proofs.Replying.{asking_is, none_runs, this_calls}
use Rattle.afs_cache.proofs.Siting.{dies_made}
use Rattle.afs_cache.proofs.node.CacheManager.die_at.Goals as goal

pub returns-in_default : goal.returns-in_default
returns-in_default c = λ act run. absurd (none_runs c.args.self.now.state.client.running c.args.self.now.state.client.gifts act c.in_default.ensures run)

pub returns : goal.returns
returns c = λ act run.
    let old = c.args.self.now in
    let k = old.state.client in
    let x = c.in_ok-fids.field-0 in
    dies_made c.in_ok-asked.asked act c.file_call.result.now c.args.round c.leave.new.self c.changed_by-drops.result c.in_ok-lines.lines x c.in_ok-plan.plan old c.follow.new.self c.follow.result c.in_ok-plan.ensures.plan
    (c.in_ok-asked.ensures ∙ asking_is k.running k.gifts c.in-Some.asked.now act c.in-Some.ensures run) (c.file_call.ensures ∙ this_calls k c.in-Some.asked.now act c.in-Some.ensures run) c.leave.ensures c.changed_by-drops.ensures c.in_ok-lines.ensures c.in_ok-fids.ensures
    (c.follow.ensures.node ∙ ap (λ (s : NodeState CopyState). s.node) c.self.view_is)
    (c.follow.ensures.state ∙ ap (λ (s : CopyState). followed s c.in_ok-plan.plan)
    (changed_view (unlisted c.deref.result.now) _ old c.drop_all.new.self c.self.view_is c.drop_all.ensures ∙ ap (λ (fs : List Fid). but_for_these old.state (unlisted fs k.cache) k.busy k.moved) c.deref.ensures.value))
    c.follow.ensures.outs
