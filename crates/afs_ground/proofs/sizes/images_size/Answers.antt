use Rattle.std.proofs.Common.{arith}
use Rattle.afs_ground.proofs.Measures.{one_more_sized}
use Rattle.afs_ground.proofs.sizes.images_size.Goals as goal

pub loop-place-preserved : goal.loop-place-preserved
loop-place-preserved c =
    let more = one_more_sized c.args.vnodes.now.table c.loop-place.place in
    let one = c.size_in_place-size.ensures.value in
    let few = c.size_in_place-size.ensures.few in
    let sum = c.loop-place.invariant.value in
    let most = c.loop-place.invariant.few in
    record { value = omega (arith, more, one, sum); few = omega (arith, few, most) }
