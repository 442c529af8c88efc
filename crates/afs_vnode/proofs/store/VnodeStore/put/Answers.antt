use Rattle.afs_vnode.proofs.Kept.{are_vnodes, hints_low, put_store}
use Rattle.afs_vnode.proofs.store.VnodeStore.put.Goals as goal

pub raised-self-inside-requires : goal.raised-self-inside-requires
raised-self-inside-requires c = (hints_low c.self.inside.vnodes.items c.self.inside.even c.self.inside.odd c.self.invariant).0

pub raised-self-inside-requires-2 : goal.raised-self-inside-requires-2
raised-self-inside-requires-2 c = (hints_low c.self.inside.vnodes.items c.self.inside.even c.self.inside.odd c.self.invariant).1

pub invariant_of-self-2 : goal.invariant_of-self-2
invariant_of-self-2 c =
    rw (c.raised-self-inside.ensures, c.raised-self-inside-2.ensures)
    (put_store c.self.inside.vnodes.items c.put.new.vnodes.items c.self.inside.even c.self.inside.odd c.args.v c.self.invariant c.requires c.in_ok-put.ensures.ok c.put.ensures.few)

pub returns-clause-vnodes : goal.returns-clause-vnodes
returns-clause-vnodes c =
    are_vnodes _ _ _
    (put_store c.self.inside.vnodes.items c.put.new.vnodes.items c.self.inside.even c.self.inside.odd c.args.v c.self.invariant c.requires c.in_ok-put.ensures.ok c.put.ensures.few)
