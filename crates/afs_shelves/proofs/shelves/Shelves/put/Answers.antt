use Rattle.std.proofs.Common.{refl, rules}
use Rattle.afs_shelves.specs.Numbered.{shelf_number}
use Rattle.afs_shelves.proofs.Numbers.{now_numbered}
use Rattle.afs_shelves.proofs.shelves.Shelves.put.Goals as goal

pub invariant_of-self : goal.invariant_of-self
invariant_of-self c = record { shelved = now_numbered shelf_number c.args.shelf.volume.head.id c.args.shelf c.args.self.now.volumes.table c.put.new.self.table (search rules) refl c.args.self.now.shelved }
