use Rattle.afs_shelves.specs.Numbered.{shelf_number}
use Rattle.afs_shelves.specs.Shelving.{shelved}
use Rattle.afs_shelves.proofs.Found.{seen_none, seen_some}
use Rattle.afs_shelves.proofs.Numbers.{numbered_some}
use Rattle.afs_shelves.proofs.shelves.Shelves.shelf.Goals as goal

pub returns-clause-some : goal.returns-clause-some
returns-clause-some c = seen_some shelved c.args.id c.args.self.now.volumes.table c.get.result c.get.ensures

pub returns-clause-none : goal.returns-clause-none
returns-clause-none c = seen_none shelved c.args.id c.args.self.now.volumes.table c.get.result c.get.ensures

pub returns-clause-id : goal.returns-clause-id
returns-clause-id c = numbered_some shelf_number c.args.id c.args.self.now.volumes.table c.get.result c.args.self.now.shelved c.get.ensures
