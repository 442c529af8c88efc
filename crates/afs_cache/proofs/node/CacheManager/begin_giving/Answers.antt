use Rattle.std.proofs.Common.{List, ap, ◌++◌, ◌∙◌}
use Rattle.spec_history.specs.declared.lines.Line.{Line}
use Rattle.afs_num.specs.declared.types.Fid.{Fid}
use Rattle.spec_model.specs.Steps.{NodeState}
use Rattle.spec_rows.specs.Going.{ClientState}
use Rattle.spec_rows.specs.ClientRow.{gives_all, gives_by}
use Rattle.afs_entries.specs.Cached.{unlisted}
use Rattle.spec_copyrows.specs.Sites.{CopyState}
use Rattle.afs_cache.specs.Acting.{but_for, but_for_these, followed}
use Rattle.afs_cache.proofs.Dropping.{changed_busy, gives_dropped, plan_moves}
use Rattle.afs_cache.proofs.node.CacheManager.begin_giving.Goals as goal

pub returns : goal.returns
returns c =
    let old = c.args.self.now in
    let act = c.args.going in
    let gifts = c.in_ok-gifts.gifts.items in
    let x = c.in_ok-fids.field-0 in
    let cache = unlisted x.fids.items old.state.client.cache in
    plan_moves (λ (d : ClientState) (front : List Line → List Line). gives_by old.node d front act gifts)
    (λ (front : List Line → List Line). gives_all old.node (record old.state.client { busy = 0; moved = 0 }) c.args.now act front)
    c.args.lines x.lines c.in_ok-plan.plan old c.follow.new.self c.follow.result cache 0 0
    c.in_ok-plan.ensures.plan (c.follow.ensures.node ∙ ap (λ (s : NodeState CopyState). s.node) c.self.view_is)
    (c.follow.ensures.state ∙ ap (λ (s : CopyState). followed s c.in_ok-plan.plan)
    (changed_busy (unlisted c.deref.result.now) _ old c.drop_all.new.self 0 0 c.self.view_is c.drop_all.ensures ∙ ap (λ (fs : List Fid). but_for_these old.state (unlisted fs old.state.client.cache) 0 0) c.deref.ensures.value))
    c.follow.ensures.outs (λ (first : List Line). gives_dropped old.node old.state.client c.args.now c.args.lines first x gifts act c.in_ok-fids.ensures c.in_ok-gifts.ensures.value)
