use Rattle.spec_records.specs.Durable.{nothing_on}
use Rattle.afs_memory.specs.States.{parts_of}
use Rattle.afs_shelves.proofs.Done.{suits_besides}
use Rattle.afs_memory.proofs.Redone.{deed_done}
use Rattle.afs_memory.proofs.memory.State.redo_deed.Goals as goal

pub do_deed-requires-clause-suits : goal.do_deed-requires-clause-suits
do_deed-requires-clause-suits c =
    let s = c.args.self.now in
    suits_besides c.args.deed (parts_of s) (nothing_on 0) s.shelves.volumes.table s.shelves.forwardings.table c.requires.suits

pub returns-clause-parts : goal.returns-clause-parts
returns-clause-parts c =
    let s = c.args.self.now in
    deed_done c.args.deed (parts_of s) _ c.requires.suits (c.do_deed.ensures (parts_of s))
