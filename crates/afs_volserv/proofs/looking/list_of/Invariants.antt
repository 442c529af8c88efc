use Rattle.std.proofs.Common.{◌≡◌, ◌≤◌, ◌<◌, length}
use Rattle.std.specs.List.{AllByRecursion}
use Rattle.spec_shape.specs.Tables.{IsListedVolume}
use Rattle.afs_volanswers.specs.Looking.{listed_before}
use Rattle.afs_volserv.proofs.looking.list_of.Given as goal

abbrev pub invariant-loop-place : goal.invariant-loop-place
invariant-loop-place g l = record {
  list : l.list ≡ listed_before l.family l.place l.store.durable.volumes;
  count : length l.list ≤ l.place;
  kinds : AllByRecursion IsListedVolume l.list;
  few : 0 < l.place → length l.store.durable.volumes ≤ 64;
}
