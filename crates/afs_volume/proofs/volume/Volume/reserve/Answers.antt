use Rattle.std.proofs.Common.{length}
use Rattle.afs_volume.proofs.volume.Volume.reserve.Goals as goal

pub returns-clause-keeps : goal.returns-clause-keeps
returns-clause-keeps c d h = c.make_room.ensures.kept (length d.vnodes) h
