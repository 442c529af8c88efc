use Rattle.std.proofs.Common.{◌∙◌, sym}
use Rattle.afs_shelves.specs.Numbered.{shelf_number}
use Rattle.afs_shelves.proofs.Numbers.{less_numbered, numbered}
use Rattle.afs_shelves.proofs.shelves.Shelves.take.Goals as goal

pub invariant_of-self : goal.invariant_of-self
invariant_of-self c = record { shelved = less_numbered shelf_number c.args.id c.args.self.now.volumes.table c.take.new.self.table c.args.self.now.shelved c.take.ensures.table }

pub returns-clause-id : goal.returns-clause-id
returns-clause-id c = numbered shelf_number c.args.id c.args.self.now.volumes.table c.in-Some.shelf c.args.self.now.shelved (sym c.take.ensures.value ∙ c.in-Some.is)
