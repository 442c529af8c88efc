use Rattle.std.proofs.Common.{◌≡◌}
use Rattle.spec_ideal.specs.Tables.{get}
use Rattle.spec_ideal.specs.VnodeImage.{FitsImage}
use Rattle.afs_vnode.specs.Stores.{table_of}
use Rattle.afs_vnode.proofs.Places.{if_pointed, fit_get, number_of}
use Rattle.afs_vnode.proofs.store.VnodeStore.get.Goals as goal

pub returns-clause-number : goal.returns-clause-number
returns-clause-number c =
    let vs = c.self.inside.vnodes.items in
    if_pointed c.find.result (get c.args.vnode (table_of vs)) (λ v. v.vnode ≡ c.args.vnode) (rw c.deref.ensures.value at c.find.ensures) (λ v e. number_of c.args.vnode vs v e)

pub returns-clause-fits : goal.returns-clause-fits
returns-clause-fits c =
    let vs = c.self.inside.vnodes.items in
    if_pointed c.find.result (get c.args.vnode (table_of vs)) (λ v. FitsImage v) (rw c.deref.ensures.value at c.find.ensures) (λ v e. fit_get c.args.vnode (table_of vs) v c.self.invariant.fits e)
