use Rattle.afs_vnode.proofs.Kept.{are_vnodes, remove_store}
use Rattle.afs_vnode.proofs.store.VnodeStore.remove.Goals as goal

pub invariant_of-self : goal.invariant_of-self
invariant_of-self c =
    rw (c.lowered-self-inside.ensures, c.lowered-self-inside-2.ensures)
    (remove_store c.self.inside.vnodes.items c.remove-was.new.vnodes.items c.self.inside.even c.self.inside.odd c.args.vnode c.self.invariant c.remove-was.ensures.removed c.remove-was.ensures.few)

pub returns-clause-vnodes : goal.returns-clause-vnodes
returns-clause-vnodes c =
    are_vnodes _ _ _
    (remove_store c.self.inside.vnodes.items c.remove-was.new.vnodes.items c.self.inside.even c.self.inside.odd c.args.vnode c.self.invariant c.remove-was.ensures.removed c.remove-was.ensures.few)
