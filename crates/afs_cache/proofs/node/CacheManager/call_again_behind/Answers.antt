use Rattle.std.proofs.Common.{◌≡◌, ℕ, List, [], ◌∷◌, ◌++◌, Some, None, true, false, ap, map, filter, sym, ◌∙◌}
use Rattle.spec_rows.specs.Going.{ClientState, Going}
use Rattle.spec_history.specs.declared.lines.Line.{Line}
use Rattle.spec_history.specs.declared.lines.Line.TheVariants as lines
use Rattle.spec_rows.specs.ClientRow.{calls_again, calls_step}
use Rattle.afs_cache.specs.Managing.{by_act, by_call, telling}
use Rattle.afs_cache.proofs.Planning.{plan_taken}
use Rattle.afs_cache.proofs.Replying.{again_as, idle_act, idle_behind}
use Rattle.afs_cache.proofs.node.CacheManager.call_again_behind.Goals as goal

pub returns-in_default : goal.returns-in_default
returns-in_default c =
    let old = c.args.self.now in
    idle_behind (calls_again old.node old.state.client) c.args.lines old old c.ignore_behind.result c.in_default.ensures c.ignore_behind.ensures

pub returns : goal.returns
returns c =
    let old = c.args.self.now in
    let asked = c.in-Some.asked.now in
    plan_taken (λ (d : ClientState) (front : List Line → List Line). calls_step old.node (record d { gifts = asked.gifts }) asked.going front) (λ (place : ℕ). telling c.args.lines (by_act old.state.client place (calls_again old.node old.state.client place) old.state.client.running))
    c.args.lines c.in_ok-plan.plan old c.follow.new.self c.follow.result old.state.client.cache old.state.client.busy old.state.client.moved c.in_ok-plan.ensures.plan c.follow.ensures.node c.follow.ensures.state c.follow.ensures.outs
    (λ place. again_as old.node old.state.client place asked c.args.lines c.in-Some.ensures)
