use Rattle.std.proofs.Common.{◌≡◌, ◌<◌, map, take}
use Rattle.afs_saving.specs.Kept.{seat_kept}
use Rattle.afs_saving.proofs.Kept.{AreSeated}
use Rattle.afs_sharing.proofs.restoring.callers_kept.Given as goal

abbrev pub invariant-loop-place : goal.invariant-loop-place
invariant-loop-place g l = record {
  seats : l.callers.seats ≡ map seat_kept (take l.place l.store.durable.kept);
  boot : l.callers.boot ≡ l.store.durable.boot;
  known : 0 < l.place → AreSeated l.store.durable.kept;
}
