use Rattle.std.proofs.Common.{List, None, ap, ◌∙◌}
use Rattle.spec_history.specs.declared.lines.Line.{Line}
use Rattle.afs_num.specs.declared.types.Fid.{Fid}
use Rattle.spec_model.specs.Steps.{NodeState}
use Rattle.spec_rows.specs.Going.{ClientState}
use Rattle.spec_rows.specs.ClientRow.{goes_on}
use Rattle.afs_entries.specs.Cached.{touched_all}
use Rattle.spec_copyrows.specs.Sites.{CopyState}
use Rattle.afs_cache.specs.Acting.{followed, over, seen_with, whole_walk}
use Rattle.afs_cache.proofs.Dropping.{changed_view}
use Rattle.afs_cache.proofs.Planning.{plan_goes, way_goes}
use Rattle.afs_cache.proofs.node.CacheManager.walk_on.Goals as goal

pub returns : goal.returns
returns c =
    let old = c.args.self.now in
    let way = c.in_ok-used.field-0 in
    let whole = whole_walk c.args.now c.args.going (seen_with old.state.client None) in
    let fids = c.deref.result.now in
    let cache = touched_all fids old.state.client.cache in
    plan_goes (λ (d : ClientState) (front : List Line → List Line). goes_on old.node d front (over whole d.cache)) (λ (front : List Line → List Line). goes_on old.node old.state.client front whole) c.args.lines way.plan old c.follow.new.self c.follow.result cache old.state.client.busy old.state.client.moved
    c.in_ok-used.ensures.plan (c.follow.ensures.node ∙ ap (λ (s : NodeState CopyState). s.node) c.self.view_is)
    (c.follow.ensures.state ∙ ap (λ (s : CopyState). followed s way.plan) (changed_view (touched_all fids) _ old c.touch_all.new.self c.self.view_is c.touch_all.ensures))
    c.follow.ensures.outs (λ (front : List Line → List Line). way_goes old.node old.state.client cache old.state.client.busy old.state.client.moved whole front (ap (λ (gs : List Fid). touched_all gs old.state.client.cache) c.deref.ensures.value ∙ c.in_ok-used.ensures.used))
