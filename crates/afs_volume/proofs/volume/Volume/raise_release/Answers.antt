use Rattle.std.proofs.Common.{refl, ◌+◌}
use Rattle.afs_volume.proofs.Soundly.{same_vnodes}
use Rattle.afs_volume.proofs.volume.Volume.raise_release.Goals as goal

pub invariant_of-self-clause-sound : goal.invariant_of-self-clause-sound
invariant_of-self-clause-sound c =
    let v = c.args.self.now in
    same_vnodes v.head (record v.head { release = v.head.release + 1 }) v.vnodes.table v.readable refl v.sound
