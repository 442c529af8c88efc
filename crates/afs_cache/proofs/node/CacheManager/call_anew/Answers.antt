use Rattle.std.proofs.Common.{◌≡◌, ℕ, List}
use Rattle.spec_history.specs.declared.lines.Line.{Line}
use Rattle.spec_rows.specs.Going.{ClientState}
use Rattle.spec_rows.specs.ClientRow.{calls_again, calls_step}
use Rattle.afs_cache.proofs.Planning.{plan_taken}
use Rattle.afs_cache.proofs.Sought.{calls_alone}
use Rattle.afs_cache.proofs.node.CacheManager.call_anew.Goals as goal

pub returns : goal.returns
returns c =
    let old = c.args.self.now in
    let a = c.args.asked in
    plan_taken (λ (d : ClientState) (front : List Line → List Line). calls_step old.node (record d { gifts = a.gifts }) a.going front) (λ (place : ℕ). calls_again old.node old.state.client place a.going)
    c.no_lines-lines.result c.in_ok-plan.plan old c.follow.new.self c.follow.result old.state.client.cache old.state.client.busy old.state.client.moved c.in_ok-plan.ensures.plan c.follow.ensures.node c.follow.ensures.state c.follow.ensures.outs
    (λ place. calls_alone old.node old.state.client place a c.no_lines-lines.result c.requires.gifts c.no_lines-lines.ensures)
