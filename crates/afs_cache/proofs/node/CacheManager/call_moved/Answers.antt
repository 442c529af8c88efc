use Rattle.std.proofs.Common.{◌≡◌, ◌+◌, ◌∷◌, ◌++◌, ℕ, List, [], Some, None, true, false, refl, ap, sym, subst, ◌∙◌}
use Rattle.afs_num.specs.Nodes.{same_node}
use Rattle.afs_num.specs.declared.types.Code.{Code}
use Rattle.afs_num.specs.declared.types.Node.{Node}
use Rattle.spec_rows.specs.Going.{Going, Seek}
use Rattle.spec_rows.specs.ClientRow.{calls_again, with_given, sought_ends}
use Rattle.std.specs.Prelude.{Option}
use Rattle.afs_cache.specs.Locating.{calls_elsewhere, IsAskedAnew}
use Rattle.afs_cache.specs.Managing.{Takes}
use Rattle.afs_cache.proofs.Answering.{takes_same}
use Rattle.afs_cache.proofs.Sought.{anew_callee, anew_gifts, anew_going, goes_elsewhere, stays_there}
use Rattle.afs_cache.proofs.node.CacheManager.call_moved.Goals as goal

pub returns-then-is_left : goal.returns-then-is_left
returns-then-is_left c = λ k e.
    let old = c.args.self.now in
    let asked = c.in_ok-asked.asked in
    let so = subst (λ (o : Option Seek). IsAskedAnew old.state.client o asked) e c.in_ok-asked.ensures in
    stays_there old.node old.state.client k.act c.args.left old c.answer_seeking.new.self c.answer_seeking.result
    (sym c.if-is_left.true ∙ (c.is-is_left.ensures ∙ (ap (same_node c.callee.result) c.server-server.ensures ∙ ap (λ (n : Node). same_node n c.args.left.server) (anew_callee old.state.client k asked c.callee.result so c.callee.ensures.value))))
    (subst (λ (x : Code). Takes (λ (place : ℕ). sought_ends old.node old.state.client (with_given place) x) old c.answer_seeking.new.self c.answer_seeking.result) c.code-code.ensures c.answer_seeking.ensures)

pub returns-else-is_left : goal.returns-else-is_left
returns-else-is_left c = λ k e.
    let old = c.args.self.now in
    let asked = c.in_ok-asked.asked in
    let so = subst (λ (o : Option Seek). IsAskedAnew old.state.client o asked) e c.in_ok-asked.ensures in
    takes_same (λ (place : ℕ). calls_again old.node old.state.client place asked.going) (λ (place : ℕ). calls_elsewhere old.node old.state.client place k.act c.args.left) old c.call_anew.new.self c.call_anew.result
    (λ place. ap (calls_again old.node old.state.client place) (anew_going old.state.client k asked so)
    ∙ goes_elsewhere old.node old.state.client k.act c.args.left place (sym c.if-is_left.false ∙ (c.is-is_left.ensures ∙ (ap (same_node c.callee.result) c.server-server.ensures ∙ ap (λ (n : Node). same_node n c.args.left.server) (anew_callee old.state.client k asked c.callee.result so c.callee.ensures.value)))))
    c.call_anew.ensures

pub call_anew-requires-clause-gifts : goal.call_anew-requires-clause-gifts
call_anew-requires-clause-gifts c = anew_gifts c.args.self.now.state.client c.args.self.now.state.client.seeking c.in_ok-asked.asked c.requires.seeks c.in_ok-asked.ensures
