use Rattle.afs_shelves.specs.Shelving.{shelved}
use Rattle.afs_shelves.proofs.Found.{nth_none, nth_shelf}
use Rattle.afs_shelves.proofs.shelves.Shelves.shelf_at.Goals as goal

pub returns-in-Some-clause-some : goal.returns-in-Some-clause-some
returns-in-Some-clause-some c = nth_shelf c.args.place c.args.self.now.volumes.table c.in-Some.item.now c.args.self.now.shelved c.in-Some.ensures.value

pub returns-in-None-clause-none : goal.returns-in-None-clause-none
returns-in-None-clause-none c = nth_none shelved c.args.place c.args.self.now.volumes.table c.in-None.ensures.value
