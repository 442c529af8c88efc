use Rattle.afs_dump.specs.Telling.{image_told}
use Rattle.afs_dump.proofs.Places.{more_told}
use Rattle.afs_dump.proofs.dumping.write_images.Goals as goal

pub loop-place-preserved : goal.loop-place-preserved
loop-place-preserved c = more_told (image_told c.args.from) c.args.vnodes.now.table c.loop-place.place c.args.w.now c.loop-place.w _ c.loop-place.invariant c.in_ok-write_image_at.ensures
