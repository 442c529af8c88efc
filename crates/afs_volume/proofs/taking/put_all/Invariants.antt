use Rattle.std.proofs.Common.{◌≡◌, ◌≤◌, length, map, nat_eq}
use Rattle.std.specs.List.{AllByRecursion}
use Rattle.std.specs.Vec.Iter.{into_iter_items}
use Rattle.spec_ideal.specs.VnodeImage.{FitsImage}
use Rattle.spec_ideal.specs.VnodeMaps.{most_vnodes}
use Rattle.spec_ideal.specs.Volumes.{blocks_in}
use Rattle.indexmap.specs.IndexMap as maps
use Rattle.afs_volume.specs.Listed.{listed_as, Lists}
use Rattle.afs_volume.specs.Seen.{all_seen, AreReadable, IsReadable}
use Rattle.afs_volume.specs.Taking.{put_but}
use Rattle.afs_volume.proofs.taking.put_all.Given as goal

abbrev pub invariant-loop-x : goal.invariant-loop-x
invariant-loop-x l = record {
  table : put_but l.removed (into_iter_items l.x-iterator) l.vnodes.table ≡ put_but l.removed l.fn.changed l.fn.vnodes.table;
  few : length (put_but l.removed (into_iter_items l.x-iterator) l.vnodes.table) ≤ most_vnodes;
  read : AllByRecursion IsReadable (into_iter_items l.x-iterator);
  fits : AllByRecursion FitsImage (into_iter_items l.x-iterator);
  readable : AreReadable l.vnodes.table;
  counted : l.blocks ≡ blocks_in (all_seen l.vnodes.table);
  room : length (into_iter_items l.x-iterator) ≤ l.vnodes.room;
  listed : Lists (maps.get nat_eq l.dirs.dirs) (all_seen l.vnodes.table);
  names : into_iter_items l.ready ≡ map listed_as (into_iter_items l.x-iterator);
  dirs_room : length (into_iter_items l.x-iterator) ≤ maps.spare l.dirs.dirs;
}
