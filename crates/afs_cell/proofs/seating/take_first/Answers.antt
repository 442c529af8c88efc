use Rattle.afs_cell.proofs.FirstHosts.{first_is}
use Rattle.afs_cell.proofs.seating.take_first.Goals as goal

pub returns-clause-items : goal.returns-clause-items
returns-clause-items g c = first_is c.args.disks.now.items c.remove.result c.remove.new.self.items c.requires.some c.remove.ensures.value c.remove.ensures.items
