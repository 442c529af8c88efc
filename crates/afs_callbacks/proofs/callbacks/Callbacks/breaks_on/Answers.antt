use Rattle.std.proofs.Common.{◌≡◌, ap, arith, sym, subst, ◌∙◌}
use Rattle.std.specs.List.{All}
use Rattle.spec_breaks.specs.Promises.{expired, lasting, owes_from}
use Rattle.afs_callbacks.specs.Besides.{promises_on}
use Rattle.afs_callbacks.specs.States.{IsPromiseToNode, CallbackState}
use Rattle.afs_callbacks.proofs.Withdrawing.{found_to_nodes, on_draws, owes_on}
use Rattle.afs_callbacks.proofs.callbacks.Callbacks.breaks_on.Goals as goal

pub new_breaks-requires-clause-draws : goal.new_breaks-requires-clause-draws
new_breaks-requires-clause-draws c =
    let l = c.args.self.now.lists in
    let found : c.deref.result.now ≡ promises_on c.args.volume (lasting c.args.now l.promises) = c.deref.ensures.value ∙ (c.in_ok-found.ensures ∙ ap (λ (m : CallbackState). promises_on c.args.volume (lasting c.args.now m.lists.promises)) c.self.view_is) in
    let draws = on_draws c.args.volume c.args.now l c.deref.result.now found c.requires.draws in
    let last = ap (λ (m : CallbackState). m.lists.last_owed) c.self.view_is in
    omega (arith, draws, last)

pub new_breaks-requires-clause-promised : goal.new_breaks-requires-clause-promised
new_breaks-requires-clause-promised c =
    let l = c.args.self.now.lists in
    let found : c.deref.result.now ≡ promises_on c.args.volume (lasting c.args.now l.promises) = c.deref.ensures.value ∙ (c.in_ok-found.ensures ∙ ap (λ (m : CallbackState). promises_on c.args.volume (lasting c.args.now m.lists.promises)) c.self.view_is) in
    subst (All IsPromiseToNode) (sym found) (found_to_nodes c.args.volume c.args.now l.promises c.requires.promised)

pub returns-clause-breaks : goal.returns-clause-breaks
returns-clause-breaks c =
    let l = c.args.self.now.lists in
    let found : c.deref.result.now ≡ promises_on c.args.volume (lasting c.args.now l.promises) = c.deref.ensures.value ∙ (c.in_ok-found.ensures ∙ ap (λ (m : CallbackState). promises_on c.args.volume (lasting c.args.now m.lists.promises)) c.self.view_is) in
    c.in_ok-breaks.ensures.breaks ∙ ((λ i. owes_from (c.self.view_is i).lists.last_owed (found i)) ∙ owes_on c.args.volume (expired c.args.now l))

pub returns-clause-nodes : goal.returns-clause-nodes
returns-clause-nodes c = c.in_ok-breaks.ensures.nodes
