use Rattle.std.proofs.Common.{◌≡◌, ℕ, List, [], ◌∷◌, ◌++◌, Some, None, true, false, ap, map, filter, sym, ◌∙◌}
use Rattle.spec_rows.specs.Going.{ClientState, Going}
use Rattle.spec_history.specs.declared.lines.Line.{Line}
use Rattle.spec_history.specs.declared.lines.Line.TheVariants as lines
use Rattle.spec_rows.specs.ClientRow.{behind_batch, with_given, gives_by}
use Rattle.afs_cache.specs.Managing.{by_act, by_call}
use Rattle.afs_cache.proofs.Planning.{plan_taken}
use Rattle.afs_cache.proofs.Replying.{idle_act, rest_taken}
use Rattle.afs_cache.proofs.node.CacheManager.give_on.Goals as goal

pub returns-in_default : goal.returns-in_default
returns-in_default c =
    let old = c.args.self.now in
    idle_act old.state.client (λ (place : ℕ) (act : Going). gives_by old.node old.state.client (with_given place) act (behind_batch old.state.client.gifts)) old old c.ignore.result c.in_default.ensures c.ignore.ensures.takes

pub returns : goal.returns
returns c =
    let old = c.args.self.now in
    let asked = c.in-Some.asked.now in
    let told = c.no_lines-lines.result in
    let act = c.in_ok-going.going in
    let rest = c.in_ok-rest.rest.items in
    plan_taken (λ (d : ClientState) (front : List Line → List Line). gives_by old.node d front act rest) (λ (place : ℕ). by_act old.state.client place (λ (g : Going). gives_by old.node old.state.client (with_given place) g (behind_batch old.state.client.gifts)) old.state.client.running)
    told c.in_ok-plan.plan old c.follow.new.self c.follow.result old.state.client.cache old.state.client.busy old.state.client.moved c.in_ok-plan.ensures.plan c.follow.ensures.node c.follow.ensures.state c.follow.ensures.outs
    (λ place. rest_taken old.node old.state.client place asked told act rest c.in-Some.ensures c.no_lines-lines.ensures c.in_ok-going.ensures.value c.in_ok-rest.ensures.value)
