use Rattle.std.proofs.Common.{◌≡◌, ℕ, List, [], ◌∷◌, ◌++◌, Some, None, true, false, ap, map, filter, sym, ◌∙◌}
use Rattle.spec_rows.specs.Going.{ClientState, Going}
use Rattle.spec_history.specs.declared.lines.Line.{Line}
use Rattle.spec_history.specs.declared.lines.Line.TheVariants as lines
use Rattle.spec_model.specs.Steps.{NodeState}
use Rattle.spec_rows.specs.ClientRow.{ends_step, refreshed, status_told, takes_stored, zero_code}
use Rattle.afs_entries.specs.Cached.{made_of}
use Rattle.spec_rows.specs.States.{CacheEntry}
use Rattle.spec_copyrows.specs.Sites.{CopyState}
use Rattle.afs_cache.specs.Acting.{followed}
use Rattle.afs_cache.proofs.Dropping.{changed_view}
use Rattle.afs_cache.proofs.Planning.{plan_taken}
use Rattle.afs_cache.proofs.Replying.{stored_taken}
use Rattle.afs_cache.proofs.node.CacheManager.take_stored.Goals as goal

pub returns : goal.returns
returns c =
    let old = c.args.self.now in
    let told = c.no_lines-lines.result in
    let made = made_of c.args.contents in
    let index = c.args.status.now.sync_counter in
    let shown = c.status_told.result in
    let cache = map (refreshed c.args.now c.args.fid index shown made) old.state.client.cache in
    plan_taken (λ (d : ClientState) (front : List Line → List Line). ends_step old.node d d.cache front zero_code) (λ (place : ℕ). takes_stored old.node old.state.client c.args.now place c.args.fid index (status_told c.args.status.now) made)
    told c.in_ok-plan.plan old c.follow.new.self c.follow.result cache old.state.client.busy old.state.client.moved c.in_ok-plan.ensures.plan (c.follow.ensures.node ∙ ap (λ (s : NodeState CopyState). s.node) c.self.view_is)
    (c.follow.ensures.state ∙ ap (λ (s : CopyState). followed s c.in_ok-plan.plan) (changed_view (map (refreshed c.args.now c.args.fid index shown made)) _ old c.refresh.new.self c.self.view_is c.refresh.ensures))
    c.follow.ensures.outs (λ place. stored_taken old.node old.state.client c.args.now place told c.args.fid index shown (status_told c.args.status.now) made c.no_lines-lines.ensures c.status_told.ensures)
