use Rattle.std.proofs.Common.{◌≡◌, ℕ, List, [], ◌∷◌, ◌++◌, Some, None, true, false, ap, map, filter, sym, ◌∙◌}
use Rattle.spec_rows.specs.Going.{ClientState, Going}
use Rattle.spec_history.specs.declared.lines.Line.{Line}
use Rattle.spec_history.specs.declared.lines.Line.TheVariants as lines
use Rattle.spec_rows.specs.ClientRow.{answers_step, ends_step}
use Rattle.afs_cache.proofs.Planning.{plan_taken}
use Rattle.afs_cache.proofs.Replying.{ends_alone}
use Rattle.afs_cache.proofs.node.CacheManager.answer.Goals as goal

pub returns : goal.returns
returns c =
    let old = c.args.self.now in
    let told = c.no_lines-lines.result in
    plan_taken (λ (d : ClientState) (front : List Line → List Line). ends_step old.node d d.cache front c.args.code) (λ (place : ℕ). answers_step old.node old.state.client place c.args.code)
    told c.in_ok-plan.plan old c.follow.new.self c.follow.result old.state.client.cache old.state.client.busy old.state.client.moved c.in_ok-plan.ensures.plan c.follow.ensures.node c.follow.ensures.state c.follow.ensures.outs
    (λ place. ends_alone old.node old.state.client old.state.client.cache place told c.args.code c.no_lines-lines.ensures)
