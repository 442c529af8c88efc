use Rattle.std.proofs.Common.{◌≡◌, ◌≤◌, drop, nat_eq}
use Rattle.spec_ideal.specs.Volumes.{blocks_in}
use Rattle.indexmap.specs.IndexMap as maps
use Rattle.afs_volume.specs.Listed.{Lists}
use Rattle.afs_volume.specs.Seen.{all_seen, AreReadable}
use Rattle.afs_volume.specs.Taking.{without_all}
use Rattle.afs_volume.proofs.taking.remove_all.Given as goal

abbrev pub invariant-loop-number : goal.invariant-loop-number
invariant-loop-number l = record {
  table : without_all (drop l.number-index l.removed) l.vnodes.table ≡ without_all l.removed l.fn.vnodes.table;
  readable : AreReadable l.vnodes.table;
  counted : l.blocks ≡ blocks_in (all_seen l.vnodes.table);
  room : l.fn.vnodes.room ≤ l.vnodes.room;
  listed : Lists (maps.get nat_eq l.dirs.dirs) (all_seen l.vnodes.table);
  dirs_room : maps.spare l.fn.dirs.dirs ≤ maps.spare l.dirs.dirs;
}
