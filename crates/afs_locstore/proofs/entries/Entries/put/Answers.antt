use Rattle.std.proofs.Common.{◌∙◌, ℕ, ap, arith}
use Rattle.spec_ideal.specs.Tables.{get, unset}
use Rattle.spec_records.specs.LocDurable.{entry_set}
use Rattle.afs_seats.proofs.Places.{put_again}
use Rattle.afs_locstore.proofs.Listed.{is_gone}
use Rattle.afs_locstore.proofs.entries.Entries.put.Goals as goal

pub add-requires-clause-absent : goal.add-requires-clause-absent
add-requires-clause-absent c =
    let n = c.args.placed.listed.entry.read_write in
    ap (get n) c.remove.ensures.table ∙ (ap (λ (m : ℕ). get n (unset m c.args.self.now.table)) c.number_of.ensures ∙ is_gone n c.args.self.now.table)

pub add-requires-clause-room : goal.add-requires-clause-room
add-requires-clause-room c = record {
  entries = omega (arith, c.requires.room.entries, c.remove.ensures.keeps.entries);
  numbers = omega (arith, c.requires.room.numbers, c.remove.ensures.keeps.numbers);
  names = omega (arith, c.requires.room.names, c.remove.ensures.keeps.names);
}

pub returns-clause-table : goal.returns-clause-table
returns-clause-table c =
    let l = c.args.placed.listed in
    c.add.ensures.table
    ∙ (ap (entry_set l) c.remove.ensures.table
    ∙ (ap (λ (m : ℕ). entry_set l (unset m c.args.self.now.table)) c.number_of.ensures ∙ put_again l.entry.read_write l c.args.self.now.table c.remove.ensures.ordered))

pub returns-clause-room : goal.returns-clause-room
returns-clause-room c = record {
  entries = omega (arith, c.remove.ensures.keeps.entries, c.add.ensures.room.entries);
  numbers = omega (arith, c.remove.ensures.keeps.numbers, c.add.ensures.room.numbers);
  names = omega (arith, c.remove.ensures.keeps.names, c.add.ensures.room.names);
}
