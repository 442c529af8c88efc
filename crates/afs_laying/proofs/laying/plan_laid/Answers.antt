use Rattle.afs_volume.proofs.Soundly.{volume_sound}
use Rattle.afs_laying.proofs.laying.plan_laid.Goals as goal

pub plan_within-planned-requires-clause-sound : goal.plan_within-planned-requires-clause-sound
plan_within-planned-requires-clause-sound c = volume_sound c.args.volume.now.head c.args.volume.now.vnodes.table c.args.volume.now.readable c.args.volume.now.sound
