use Rattle.std.proofs.Common.{◌∙◌, Bool, ap, sym}
use Rattle.spec_ideal.specs.Tables.{Table, set}
use Rattle.afs_seats.proofs.Places.{put_again}
use Rattle.afs_shelves.specs.Numbered.{shelf_number}
use Rattle.afs_shelves.specs.declared.shelf.Shelf.{Shelf}
use Rattle.afs_shelves.proofs.Numbers.{put_numbered}
use Rattle.afs_memory.proofs.redoing.put_change.Goals as goal

pub returns-clause-changed : goal.returns-clause-changed
returns-clause-changed c =
    let after : Shelf = c.taken_in.result in
    record {
      before = c.in-Some.shelf;
      there = sym c.take.ensures.value ∙ c.in-Some.is;
      after = after.volume;
      put = c.in-Ok.ensures.ok
          ∙ (ap (λ (t : Table Shelf). set c.args.id after t) c.take.ensures.table
          ∙ (put_again c.args.id after c.args.volumes.now.table c.take.ensures.ascends
          ∙ ap (λ (b : Bool). set c.args.id (record { volume = after.volume; is_new = b }) c.args.volumes.now.table) c.taken_in.ensures.is_new));
      changed = c.taken_in.ensures.changed;
    }

pub returns-clause-numbered : goal.returns-clause-numbered
returns-clause-numbered c =
    put_numbered shelf_number c.args.id c.in-Some.shelf c.taken_in.result c.args.volumes.now.table c.take.new.self.table c.put.new.self.table c.requires.numbered (sym c.take.ensures.value ∙ c.in-Some.is) c.taken_in.ensures.id c.take.ensures.table c.in-Ok.ensures.ok
