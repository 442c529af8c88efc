use Rattle.std.proofs.Common.{◌≡◌, drop, map, take}
use Rattle.std.specs.List.{list_all, AllByRecursion}
use Rattle.afs_volume.specs.Assembling.{can_be_read}
use Rattle.afs_volume.specs.Listed.{listed_as}
use Rattle.afs_volume.specs.Seen.{IsReadable}
use Rattle.afs_volume.proofs.ready.read_all.Given as goal

abbrev pub invariant-loop-x : goal.invariant-loop-x
invariant-loop-x l = record {
  names : l.names ≡ map listed_as (take l.x-index l.vnodes);
  rest : list_all can_be_read (drop l.x-index l.vnodes) ≡ list_all can_be_read l.vnodes;
  read : AllByRecursion IsReadable (drop l.x-index l.vnodes) → AllByRecursion IsReadable l.vnodes;
}
