use Rattle.std.proofs.Common.{refl, arith}
use Rattle.afs_volume.specs.Seen.{all_seen}
use Rattle.afs_volume.proofs.Readable.{one_more_counted, place_readable}
use Rattle.afs_volume.proofs.assembling.blocks_in.Goals as goal

pub loop-place-init : goal.loop-place-init
unfolding all_seen
loop-place-init c = record { value = refl; few = omega arith }

pub blocks_in_place-sum-requires : goal.blocks_in_place-sum-requires
blocks_in_place-sum-requires c = place_readable 0 c.args.vnodes.now.table c.loop-place.place c.len-place-end.ensures.ascends c.requires

pub loop-place-preserved : goal.loop-place-preserved
loop-place-preserved c =
    let more = one_more_counted c.args.vnodes.now.table c.loop-place.place in
    let one = c.blocks_in_place-sum.ensures.value in
    let few = c.blocks_in_place-sum.ensures.few in
    let sum = c.loop-place.invariant.value in
    let most = c.loop-place.invariant.few in
    record { value = omega (arith, more, one, sum); few = omega (arith, few, most) }
