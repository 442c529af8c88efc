use Rattle.std.proofs.Common.{rules}
use Rattle.afs_shelves.proofs.Numbers.{now_numbered}
use Rattle.afs_shelves.specs.Numbered.{shelf_number}
use Rattle.afs_memory.specs.Redoing.{laid}
use Rattle.afs_memory.proofs.redoing.put_volume.Goals as goal

pub returns-clause-numbered : goal.returns-clause-numbered
returns-clause-numbered c = now_numbered shelf_number _ (laid c.args.volume) c.args.volumes.now.table c.put.new.self.table c.in-Ok.ensures.ok (search rules) c.requires.numbered
