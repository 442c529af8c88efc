use Rattle.std.proofs.Common.{slice_get}
use Rattle.spec_ideal.specs.VnodeImage.{FitsImage}
use Rattle.afs_vnode.proofs.Places.{if_pointed, fit_nth}
use Rattle.afs_vnode.proofs.store.VnodeStore.at.Goals as goal

pub returns-clause-fits : goal.returns-clause-fits
returns-clause-fits c =
    let vs = c.self.inside.vnodes.items in
    if_pointed c.nth.result (slice_get vs c.args.place) (λ v. FitsImage v) (rw c.deref.ensures.value at c.nth.ensures) (λ v e. fit_nth c.args.place vs v c.self.invariant.fits e)
