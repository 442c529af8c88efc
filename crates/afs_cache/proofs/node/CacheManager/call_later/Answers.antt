use Rattle.std.proofs.Common.{◌≡◌, ℕ, ◌+◌, List, [], ◌∷◌, ◌++◌, Some, None, true, false, ap, map, filter, sym, ◌∙◌}
use Rattle.spec_rows.specs.Going.{ClientState, Going}
use Rattle.spec_history.specs.declared.lines.Line.{Line}
use Rattle.spec_history.specs.declared.lines.Line.TheVariants as lines
use Rattle.spec_model.specs.Steps.{NodeState}
use Rattle.spec_rows.specs.ClientRow.{calls_again, calls_step}
use Rattle.spec_copyrows.specs.Sites.{CopyState}
use Rattle.afs_cache.specs.Managing.{by_act, by_call}
use Rattle.afs_cache.specs.Acting.{followed}
use Rattle.afs_cache.proofs.Planning.{plan_taken}
use Rattle.afs_cache.proofs.Replying.{idle_act, later_as}
use Rattle.afs_cache.proofs.node.CacheManager.call_later.Goals as goal

pub returns-in_default : goal.returns-in_default
returns-in_default c =
    let old = c.args.self.now in
    idle_act old.state.client (calls_again old.node (record old.state.client { busy = old.state.client.busy + 1 })) old old c.ignore.result c.in_default.ensures c.ignore.ensures.takes

pub returns : goal.returns
returns c =
    let old = c.args.self.now in
    let asked = c.in-Some.asked.now in
    let told = c.no_lines-lines.result in
    plan_taken (λ (d : ClientState) (front : List Line → List Line). calls_step old.node (record d { gifts = asked.gifts }) asked.going front) (λ (place : ℕ). by_act old.state.client place (calls_again old.node (record old.state.client { busy = old.state.client.busy + 1 }) place) old.state.client.running)
    told c.in_ok-plan.plan old c.follow.new.self c.follow.result old.state.client.cache (old.state.client.busy + 1) old.state.client.moved c.in_ok-plan.ensures.plan (c.follow.ensures.node ∙ ap (λ (s : NodeState CopyState). s.node) c.wait_more.ensures)
    (c.follow.ensures.state ∙ ap (λ (s : NodeState CopyState). followed s.state c.in_ok-plan.plan) c.wait_more.ensures) c.follow.ensures.outs
    (λ place. later_as old.node old.state.client place asked told c.in-Some.ensures c.no_lines-lines.ensures)
