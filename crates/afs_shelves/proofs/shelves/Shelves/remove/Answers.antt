use Rattle.afs_shelves.specs.Numbered.{shelf_number}
use Rattle.afs_shelves.proofs.Numbers.{less_numbered}
use Rattle.afs_shelves.proofs.shelves.Shelves.remove.Goals as goal

pub invariant_of-self : goal.invariant_of-self
invariant_of-self c = record { shelved = less_numbered shelf_number c.args.id c.args.self.now.volumes.table c.take.new.self.table c.args.self.now.shelved c.take.ensures.table }
