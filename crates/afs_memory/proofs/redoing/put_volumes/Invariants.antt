use Rattle.std.proofs.Common.{◌≡◌, ◌≤◌, map, length}
use Rattle.std.specs.List.{AllByRecursion}
use Rattle.std.specs.Vec.Iter.{into_iter_items}
use Rattle.spec_records.specs.Durable.{Durable, with_volumes}
use Rattle.afs_shelves.specs.Numbered.{AreShelved}
use Rattle.afs_memory.specs.Redoing.{holding}
use Rattle.afs_memory.specs.Redos.{told, IsMadeAgain}
use Rattle.afs_memory.proofs.redoing.put_volumes.Given as goal

abbrev pub invariant-loop-volume : goal.invariant-loop-volume
invariant-loop-volume l = record {
  kept : (d : Durable) → with_volumes (map told (into_iter_items l.volume-iterator)) (holding d l.volumes.table) ≡ with_volumes (map told l.fn.added) (holding d l.fn.volumes.table);
  again : AllByRecursion IsMadeAgain (into_iter_items l.volume-iterator);
  numbered : AreShelved l.volumes.table;
  room : length (into_iter_items l.volume-iterator) ≤ l.volumes.room;
}
