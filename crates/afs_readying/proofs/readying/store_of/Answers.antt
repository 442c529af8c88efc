use Rattle.std.proofs.Common.{◌≡◌, ◌∷◌, false, rules, arith}
use Rattle.std.specs.Vec.Iter.{into_iter_items}
use Rattle.spec_ideal.specs.VnodeMaps.{is_full_for}
use Rattle.spec_records.specs.Durable.{by_number}
use Rattle.afs_readying.proofs.Readied.{ascends_of, is_room, one_put}
use Rattle.afs_readying.proofs.readying.store_of.Goals as goal

pub loop-vnode-preserved : goal.loop-vnode-preserved
loop-vnode-preserved c =
    let first : into_iter_items c.loop-vnode.vnode-iterator ≡ c.in-Some.vnode ∷ into_iter_items c.next.new.self = search rules in
    record {
      table = one_put c.in-Some.vnode (into_iter_items c.next.new.self) (into_iter_items c.loop-vnode.vnode-iterator) c.loop-vnode.store.table c.put.new.self.table (by_number c.args.vnodes) (ascends_of 0 c.args.vnodes c.requires.ascend) c.loop-vnode.invariant.table first c.in-Ok.ensures.ok;
      fits = search rules;
    }

pub unreachable-requires : goal.unreachable-requires
unreachable-requires c =
    let first : into_iter_items c.loop-vnode.vnode-iterator ≡ c.in-Some.vnode ∷ into_iter_items c.next.new.self = search rules in
    let free : is_full_for c.in-Some.vnode.vnode c.loop-vnode.store.table ≡ false = is_room c.in-Some.vnode (into_iter_items c.next.new.self) (into_iter_items c.loop-vnode.vnode-iterator) c.args.vnodes c.loop-vnode.store.table (ascends_of 0 c.args.vnodes c.requires.ascend) c.requires.few c.loop-vnode.invariant.table first in
    grind (arith, free, c.in-Err-TooMany.ensures.many, c.in-Err-TooMany.is, c.in-Err-TooMany.field-0-is)
