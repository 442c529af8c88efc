use Rattle.std.proofs.Common.{◌≡◌, drop, take}
use Rattle.afs_restore.specs.Filling.{filled, given_in, ImagesAreGood, AreMade}
use Rattle.afs_restore.proofs.Filled.{with_vnodes}
use Rattle.afs_restore.proofs.restoring.filled.Given as goal

-- the vnodes so far and those still to come are all
abbrev pub invariant-loop-pair : goal.invariant-loop-pair
invariant-loop-pair l = record {
  all : with_vnodes l.vnodes.items (filled l.anew l.old.table (drop l.pair-index l.live) (given_in (drop l.pair-index l.live) l.rest)) ≡ filled l.anew l.old.table l.live (given_in l.live l.images);
  good : ImagesAreGood (drop l.pair-index l.live) (given_in (drop l.pair-index l.live) l.rest);
  made : AreMade (take l.pair-index l.live) l.vnodes.items;
}
