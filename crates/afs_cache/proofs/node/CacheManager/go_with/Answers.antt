use Rattle.std.proofs.Common.{List, ap, map, ◌∙◌}
use Rattle.spec_history.specs.declared.lines.Line.{Line}
use Rattle.spec_model.specs.Steps.{NodeState}
use Rattle.spec_rows.specs.Going.{ClientState}
use Rattle.spec_rows.specs.ClientRow.{goes_on, put_entries, not_walked}
use Rattle.afs_entries.specs.Cached.{entry_of}
use Rattle.spec_copyrows.specs.Sites.{CopyState}
use Rattle.afs_cache.specs.Acting.{followed}
use Rattle.afs_cache.proofs.Planning.{goes_in, plan_goes, put_view}
use Rattle.afs_cache.proofs.node.CacheManager.go_with.Goals as goal

pub returns : goal.returns
returns c =
    let old = c.args.self.now in
    let es = map entry_of c.args.fresh.items in
    let cache = put_entries old.state.client.capacity es old.state.client.cache in
    plan_goes (λ (d : ClientState) (front : List Line → List Line). goes_on old.node d front (not_walked c.args.going d.cache)) (λ (front : List Line → List Line). goes_on old.node old.state.client front (not_walked c.args.going cache)) c.args.lines c.in_ok-plan.plan old c.follow.new.self c.follow.result cache old.state.client.busy old.state.client.moved
    c.in_ok-plan.ensures.plan (c.follow.ensures.node ∙ ap (λ (s : NodeState CopyState). s.node) c.self.view_is)
    (c.follow.ensures.state ∙ ap (λ (s : CopyState). followed s c.in_ok-plan.plan) (put_view _ old c.put_all.new.self es c.self.view_is c.in_ok-put_all.ensures.ok))
    c.follow.ensures.outs (λ (front : List Line → List Line). goes_in old.node old.state.client cache old.state.client.busy old.state.client.moved front (not_walked c.args.going cache))
