use Rattle.std.proofs.Common.{◌++◌, ◌∷◌, [], ◌∙◌, ap}
use Rattle.afs_disk.specs.Past.{Memory}
use Rattle.afs_disk.proofs.Remembered.{passes}
use Rattle.afs_disk.proofs.memory.MemDiskDisk.sync.Goals as goal

pub returns-clause-time : goal.returns-clause-time
returns-clause-time c = passes c.args.self.now.past _ c.args.self.now.held c.sync.new.self (c.remember.ensures ∙ ap (λ (m : Memory). m.past ++ m.held ∷ []) c.self.view_is)
