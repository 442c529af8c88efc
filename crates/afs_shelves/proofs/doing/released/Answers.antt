use Rattle.std.proofs.Common.{refl}
use Rattle.afs_volume.proofs.Soundly.{same_vnodes}
use Rattle.afs_shelves.proofs.doing.released.Goals as goal

pub invariant_of-volume-clause-sound : goal.invariant_of-volume-clause-sound
invariant_of-volume-clause-sound c =
    let v = c.args.volume in
    same_vnodes v.head (record v.head { release = c.args.release }) v.vnodes.table v.readable refl v.sound
