use Rattle.std.proofs.Common.{◌≡◌, drop, take, nat_eq}
use Rattle.std.specs.List.{list_all}
use Rattle.indexmap.specs.IndexMap as maps
use Rattle.afs_volume.specs.Assembling.{are_read, reads_pair}
use Rattle.afs_volume.specs.Listed.{Lists}
use Rattle.afs_volume.specs.Seen.{all_seen}
use Rattle.afs_volume.proofs.Readable.{AllReadable}
use Rattle.afs_volume.proofs.directories.Directories.read.Given as goal

abbrev pub invariant-loop-place : goal.invariant-loop-place
invariant-loop-place l = record {
  listed : Lists (maps.get nat_eq l.dirs.dirs) (all_seen (take l.place l.vnodes.table));
  value : list_all reads_pair (drop l.place l.vnodes.table) ≡ are_read l.vnodes.table;
  readable : AllReadable (take l.place l.vnodes.table);
}
