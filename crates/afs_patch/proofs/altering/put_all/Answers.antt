use Rattle.std.proofs.Common.{◌≡◌, ◌∷◌, false, true, rules}
use Rattle.std.specs.Vec.Iter.{into_iter_items}
use Rattle.spec_ideal.specs.VnodeMaps.{is_full_for}
use Rattle.afs_volume.specs.Taking.{is_among}
use Rattle.afs_patch.proofs.Left.{many_left}
use Rattle.afs_patch.proofs.altering.put_all.Goals as goal

pub returns-in-Err-TooMany-clause-many : goal.returns-in-Err-TooMany-clause-many
returns-in-Err-TooMany-clause-many c = λ e.
    let first : into_iter_items c.loop-vnode.vnode-iterator ≡ c.in-Some.vnode ∷ into_iter_items c.next.new.self = search rules in
    let apart : is_among c.in-Some.vnode.vnode c.args.removed.now ≡ false = search rules in
    let full : is_full_for c.in-Some.vnode.vnode c.loop-vnode.vnodes.table ≡ true = c.in-Err-TooMany.ensures.many.0 (search rules) in
    many_left c.args.removed.now c.in-Some.vnode (into_iter_items c.next.new.self) (into_iter_items c.loop-vnode.vnode-iterator) c.args.changed c.loop-vnode.vnodes.table c.args.vnodes.now.table first apart full c.loop-vnode.invariant.vnodes.ascends c.loop-vnode.invariant.table
