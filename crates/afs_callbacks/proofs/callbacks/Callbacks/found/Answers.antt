use Rattle.std.proofs.Common.{◌≡◌, List, [], length, arith, ap, sym, subst, ◌∙◌}
use Rattle.std.specs.List.{All}
use Rattle.afs_num.specs.declared.types.Fid.{Fid}
use Rattle.spec_breaks.specs.Promises.{lasting, owes_from}
use Rattle.afs_callbacks.specs.Saving.{fids_changed, fids_granted, hits_each, hits_fresh}
use Rattle.afs_callbacks.specs.States.{IsPromiseToNode, CallbackState}
use Rattle.afs_callbacks.proofs.Withdrawn.{few_lasting, found_to_nodes, fresh_are}
use Rattle.afs_callbacks.proofs.callbacks.Callbacks.found.Goals as goal

pub new_breaks-requires-clause-draws : goal.new_breaks-requires-clause-draws
new_breaks-requires-clause-draws c =
    let ps = c.args.self.now.lists.promises in
    let fids = c.in_ok-changed.changed in
    let n = c.args.from in
    let fresh : c.in_ok-withdrawn.withdrawn.items ≡ hits_fresh n [] fids (lasting c.args.now ps) = c.in_ok-withdrawn.ensures ∙ (λ i. hits_fresh n [] (c.as_slice-3.ensures i) (lasting c.args.now (c.self.view_is i).lists.promises)) in
    let long = ap length (fresh ∙ fresh_are n fids (lasting c.args.now ps)) in
    let few = few_lasting n fids c.args.now ps in
    let given = ap length c.deref.ensures.value in
    let draws = c.requires.draws in
    let last = ap (λ (m : CallbackState). m.lists.last_owed) c.self.view_is in
    omega (arith, given, long, few, last, draws)

pub new_breaks-requires-clause-promised : goal.new_breaks-requires-clause-promised
new_breaks-requires-clause-promised c =
    let ps = c.args.self.now.lists.promises in
    let fids = c.in_ok-changed.changed in
    let n = c.args.from in
    let fresh : c.in_ok-withdrawn.withdrawn.items ≡ hits_fresh n [] fids (lasting c.args.now ps) = c.in_ok-withdrawn.ensures ∙ (λ i. hits_fresh n [] (c.as_slice-3.ensures i) (lasting c.args.now (c.self.view_is i).lists.promises)) in
    subst (All IsPromiseToNode) (sym (c.deref.ensures.value ∙ (fresh ∙ fresh_are n fids (lasting c.args.now ps)))) (found_to_nodes n fids c.args.now ps c.requires.promised)

pub returns-clause-changed : goal.returns-clause-changed
returns-clause-changed c = c.in_ok-changed.ensures ∙ ap fids_changed c.as_slice.ensures

pub returns-clause-grants : goal.returns-clause-grants
returns-clause-grants c = c.in_ok-grants.ensures

pub returns-clause-granted : goal.returns-clause-granted
returns-clause-granted c = c.in_ok-granted.ensures ∙ ap fids_granted (c.as_slice-2.ensures ∙ c.in_ok-grants.ensures)

pub returns-clause-withdrawn : goal.returns-clause-withdrawn
returns-clause-withdrawn c =
    let fids = c.in_ok-changed.changed in
    let fresh : c.in_ok-withdrawn.withdrawn.items ≡ hits_fresh c.args.from [] fids (lasting c.args.now c.args.self.now.lists.promises) =
    c.in_ok-withdrawn.ensures ∙ (λ i. hits_fresh c.args.from [] (c.as_slice-3.ensures i) (lasting c.args.now (c.self.view_is i).lists.promises)) in
    fresh ∙ fresh_are c.args.from fids (lasting c.args.now c.args.self.now.lists.promises)

pub returns-clause-breaks : goal.returns-clause-breaks
returns-clause-breaks c =
    let n = c.args.from in
    let l = c.args.self.now.lists in
    let fids = c.in_ok-changed.changed in
    let changed : fids ≡ fids_changed c.args.change.now.versions = c.in_ok-changed.ensures ∙ ap fids_changed c.as_slice.ensures in
    let fresh : c.in_ok-withdrawn.withdrawn.items ≡ hits_fresh n [] fids (lasting c.args.now l.promises) = c.in_ok-withdrawn.ensures ∙ (λ i. hits_fresh n [] (c.as_slice-3.ensures i) (lasting c.args.now (c.self.view_is i).lists.promises)) in
    let found = fresh ∙ fresh_are n fids (lasting c.args.now l.promises) in
    let owed : c.in_ok-breaks.breaks.items ≡ owes_from l.last_owed c.in_ok-withdrawn.withdrawn.items = c.in_ok-breaks.ensures.breaks ∙ (λ i. owes_from (c.self.view_is i).lists.last_owed (c.deref.ensures.value i)) in
    owed ∙ ap (owes_from l.last_owed) (found ∙ ap (λ (fs : List Fid). hits_each n fs (lasting c.args.now l.promises)) changed)

pub returns-clause-nodes : goal.returns-clause-nodes
returns-clause-nodes c = c.in_ok-breaks.ensures.nodes
