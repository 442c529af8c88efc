use Rattle.std.proofs.Common.{◌≡◌, ◌∷◌, false, rules}
use Rattle.std.specs.Vec.Iter.{into_iter_items}
use Rattle.afs_volume.specs.Taking.{is_among}
use Rattle.afs_volume.proofs.Taken.{put_has_room}
use Rattle.afs_volume.proofs.taking.put_all.Goals as goal

pub put-blocks-requires-clause-few : goal.put-blocks-requires-clause-few
put-blocks-requires-clause-few c =
    let first : into_iter_items c.loop-x.x-iterator ≡ c.in-Some.x ∷ into_iter_items c.next.new.self = search rules in
    let stays : is_among c.in-Some.x.vnode c.args.removed.now ≡ false = search rules in
    put_has_room c.args.removed.now c.in-Some.x (into_iter_items c.next.new.self) (into_iter_items c.loop-x.x-iterator) c.loop-x.vnodes.table first stays c.loop-x.invariant.few
