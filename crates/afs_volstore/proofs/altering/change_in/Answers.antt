use Rattle.std.proofs.Common.{◌∙◌, ap, sym}
use Rattle.spec_ideal.specs.Tables.{Table, set}
use Rattle.afs_shelves.specs.declared.shelf.Shelf.{Shelf}
use Rattle.afs_seats.proofs.Places.{put_again}
use Rattle.afs_shelves.specs.Numbered.{shelf_number}
use Rattle.afs_shelves.proofs.Numbers.{less_numbered, put_numbered}
use Rattle.afs_volstore.proofs.altering.change_in.Goals as goal

pub returns-in_err-volume-clause-numbered : goal.returns-in_err-volume-clause-numbered
returns-in_err-volume-clause-numbered c = less_numbered shelf_number c.args.id c.args.volumes.now.table c.take.new.self.table c.requires.numbered c.take.ensures.table

pub returns-clause-changed : goal.returns-clause-changed
returns-clause-changed c =
    let after : Shelf = record { volume = c.in_ok-volume.volume; is_new = c.in-Some.shelf.is_new } in
    record {
      before = c.in-Some.shelf;
      there = sym c.take.ensures.value ∙ c.in-Some.is;
      after = c.in_ok-volume.volume;
      put = c.in-Ok.ensures.ok ∙ (ap (λ (t : Table Shelf). set c.args.id after t) c.take.ensures.table ∙ put_again c.args.id after c.args.volumes.now.table c.take.ensures.ascends);
      changed = c.in_ok-volume.ensures.made;
    }

pub returns-clause-numbered : goal.returns-clause-numbered
returns-clause-numbered c =
    let after : Shelf = record { volume = c.in_ok-volume.volume; is_new = c.in-Some.shelf.is_new } in
    put_numbered shelf_number c.args.id c.in-Some.shelf after c.args.volumes.now.table c.take.new.self.table c.put.new.self.table c.requires.numbered (sym c.take.ensures.value ∙ c.in-Some.is) c.in_ok-volume.ensures.id c.take.ensures.table c.in-Ok.ensures.ok
