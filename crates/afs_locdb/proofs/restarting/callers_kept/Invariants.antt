use Rattle.std.proofs.Common.{◌≡◌, ◌<◌, map, take}
use Rattle.afs_saving.specs.Kept.{seat_kept}
use Rattle.afs_saving.proofs.Kept.{AreSeated}
use Rattle.afs_locdb.proofs.restarting.callers_kept.Given as goal

abbrev pub invariant-loop-place : goal.invariant-loop-place
invariant-loop-place l = record {
  seats : l.callers.seats ≡ map seat_kept (take l.place l.kept.table);
  boot : l.callers.boot ≡ l.boot;
}
