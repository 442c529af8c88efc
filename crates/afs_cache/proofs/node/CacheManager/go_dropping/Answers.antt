use Rattle.std.proofs.Common.{List, ap, filter, ◌++◌, ◌∙◌}
use Rattle.spec_history.specs.declared.lines.Line.{Line}
use Rattle.afs_num.specs.declared.types.Fid.{Fid}
use Rattle.spec_model.specs.Steps.{NodeState}
use Rattle.spec_rows.specs.Going.{ClientState}
use Rattle.spec_rows.specs.ClientRow.{dropped, goes_on, not_walked}
use Rattle.afs_entries.specs.Cached.{drops_of, left, unlisted}
use Rattle.spec_copyrows.specs.Sites.{CopyState}
use Rattle.afs_cache.specs.Acting.{but_for, but_for_these, followed}
use Rattle.afs_cache.proofs.Dropping.{changed_view, goes_dropped, plan_moves}
use Rattle.afs_cache.proofs.node.CacheManager.go_dropping.Goals as goal

pub returns : goal.returns
returns c =
    let old = c.args.self.now in
    let drops = c.args.drops.now in
    let act = c.args.seen.going in
    let x = c.in_ok-fids.field-0 in
    let cache = unlisted x.fids.items old.state.client.cache in
    plan_moves (λ (d : ClientState) (front : List Line → List Line). goes_on old.node d front (not_walked act d.cache))
    (λ (front : List Line → List Line). goes_on old.node old.state.client (λ (ls : List Line). front (dropped old.node (filter (drops_of drops) old.state.client.cache) ls)) (not_walked act (left drops old.state.client.cache)))
    c.args.seen.lines x.lines c.in_ok-plan.plan old c.follow.new.self c.follow.result cache old.state.client.busy old.state.client.moved
    c.in_ok-plan.ensures.plan (c.follow.ensures.node ∙ ap (λ (s : NodeState CopyState). s.node) c.self.view_is)
    (c.follow.ensures.state ∙ ap (λ (s : CopyState). followed s c.in_ok-plan.plan)
    (changed_view (unlisted c.deref.result.now) _ old c.drop_all.new.self c.self.view_is c.drop_all.ensures ∙ ap (λ (fs : List Fid). but_for_these old.state (unlisted fs old.state.client.cache) old.state.client.busy old.state.client.moved) c.deref.ensures.value))
    c.follow.ensures.outs (λ (first : List Line). goes_dropped old.node old.state.client drops c.args.seen.lines first x act c.in_ok-fids.ensures)
