use Rattle.std.proofs.Common.{◌≡◌, List, Some, ap, subst, sym, ◌∙◌}
use Rattle.spec_history.specs.declared.lines.Line.{Line}
use Rattle.afs_num.specs.declared.types.Fid.{Fid}
use Rattle.spec_model.specs.Steps.{NodeState}
use Rattle.spec_rows.specs.Going.{ClientState}
use Rattle.spec_rows.specs.ClientRow.{goes_on, put_entry}
use Rattle.afs_entries.specs.Cached.{entry_of, touched_all}
use Rattle.spec_copyrows.specs.Sites.{CopyState}
use Rattle.afs_cache.specs.Acting.{CanFollow, followed, over, seen_with, whole_walk}
use Rattle.afs_cache.proofs.Planning.{plan_goes, way_goes}
use Rattle.afs_cache.proofs.node.CacheManager.walk_with.Goals as goal

pub follow-requires : goal.follow-requires
follow-requires c = subst (λ (n : NodeState CopyState). CanFollow n.state.client.last c.in_ok-used.field-0.plan) (sym c.in_ok-put_used.ensures.ok) c.in_ok-used.ensures.follows

pub returns : goal.returns
returns c =
    let old = c.args.self.now in
    let way = c.in_ok-used.field-0 in
    let whole = whole_walk c.args.now c.args.going (seen_with old.state.client (Some c.args.fresh)) in
    let put = put_entry old.state.client.capacity (entry_of c.args.fresh) old.state.client.cache in
    let cache = touched_all c.deref.result.now put in
    plan_goes (λ (d : ClientState) (front : List Line → List Line). goes_on old.node d front (over whole d.cache)) (λ (front : List Line → List Line). goes_on old.node old.state.client front whole) c.args.lines way.plan old c.follow.new.self c.follow.result cache old.state.client.busy old.state.client.moved
    c.in_ok-used.ensures.plan (c.follow.ensures.node ∙ ap (λ (s : NodeState CopyState). s.node) c.in_ok-put_used.ensures.ok) (c.follow.ensures.state ∙ ap (λ (s : NodeState CopyState). followed s.state way.plan) c.in_ok-put_used.ensures.ok)
    c.follow.ensures.outs (λ (front : List Line → List Line). way_goes old.node old.state.client cache old.state.client.busy old.state.client.moved whole front (ap (λ (gs : List Fid). touched_all gs put) c.deref.ensures.value ∙ c.in_ok-used.ensures.used))
