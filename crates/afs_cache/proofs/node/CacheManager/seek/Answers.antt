use Rattle.std.proofs.Common.{◌≡◌, ℕ, ◌+◌, ◌∷◌, ◌++◌, List, Some, None, ap, sym, ◌∙◌}
use Rattle.spec_rows.specs.Going.{ClientState, Going}
use Rattle.spec_history.specs.declared.lines.Line.{Line}
use Rattle.spec_model.specs.Steps.{NodeState}
use Rattle.spec_rows.specs.ClientRow.{asks_where, seeks_step}
use Rattle.spec_copyrows.specs.Sites.{CopyState}
use Rattle.afs_cache.specs.Acting.{followed}
use Rattle.afs_cache.specs.Managing.{by_act}
use Rattle.afs_cache.proofs.Sought.{seeks_where}
use Rattle.afs_cache.proofs.Planning.{plan_taken}
use Rattle.afs_cache.proofs.Replying.{idle_act}
use Rattle.afs_cache.proofs.node.CacheManager.seek.Goals as goal

pub returns-in_default : goal.returns-in_default
returns-in_default c =
    let old = c.args.self.now in
    idle_act old.state.client (λ (place : ℕ) (act : Going). asks_where old.node old.state.client place act c.args.code (Some c.args.operand)) old old c.ignore.result c.in_default.ensures c.ignore.ensures.takes

pub returns : goal.returns
returns c =
    let old = c.args.self.now in
    let asked = c.in-Some.asked.now in
    let told = c.no_lines-lines.result in
    let act = c.in_ok-going.going in
    plan_taken (λ (d : ClientState) (front : List Line → List Line). seeks_step old.node d (record { act = act; operand = c.args.operand; left = Some c.left-left.result }) d.cache front)
    (λ (place : ℕ). by_act old.state.client place (λ (g : Going). asks_where old.node old.state.client place g c.args.code (Some c.args.operand)) old.state.client.running)
    told c.in_ok-plan.plan old c.follow.new.self c.follow.result old.state.client.cache old.state.client.busy (old.state.client.moved + 1) c.in_ok-plan.ensures.plan (c.follow.ensures.node ∙ ap (λ (s : NodeState CopyState). s.node) c.count_move.ensures)
    (c.follow.ensures.state ∙ ap (λ (s : NodeState CopyState). followed s.state c.in_ok-plan.plan) c.count_move.ensures) c.follow.ensures.outs
    (λ place. seeks_where old.node old.state.client place asked told act c.args.code c.args.operand c.left-left.result c.in-Some.ensures c.no_lines-lines.ensures c.in_ok-going.ensures.value c.left-left.ensures)
