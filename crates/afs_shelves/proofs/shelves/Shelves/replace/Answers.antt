use Rattle.std.proofs.Common.{refl}
use Rattle.afs_shelves.specs.declared.shelf.Shelf.{Shelf}
use Rattle.afs_shelves.proofs.Done.{put_back}
use Rattle.afs_shelves.proofs.shelves.Shelves.replace.Goals as goal

pub returns-clause-replaced : goal.returns-clause-replaced
returns-clause-replaced c =
    let after : Shelf = record { volume = c.args.volume; is_new = c.take-is_new.result.is_new } in
    record {
      before = c.take-is_new.result;
      there = c.take-is_new.ensures.value;
      put = put_back c.args.volume.head.id after c.args.self.now.volumes.table c.take-is_new.new.self.volumes.table c.put.new.self.volumes.table c.take-is_new.ensures.ascends c.take-is_new.ensures.table refl c.put.ensures.table;
    }
