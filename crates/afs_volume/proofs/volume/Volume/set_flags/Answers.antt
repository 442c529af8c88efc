use Rattle.std.proofs.Common.{refl}
use Rattle.afs_volume.proofs.Soundly.{same_vnodes}
use Rattle.afs_volume.proofs.volume.Volume.set_flags.Goals as goal

pub invariant_of-self-clause-sound : goal.invariant_of-self-clause-sound
invariant_of-self-clause-sound c =
    let v = c.args.self.now in
    same_vnodes v.head (record v.head { flags = c.args.flags }) v.vnodes.table v.readable refl v.sound
