use Rattle.std.proofs.Common.{◌≡◌, ◌≤◌, [], drop, length, map}
use Rattle.spec_records.specs.Changes.{volumes_laid}
use Rattle.afs_seats.specs.Seated.{seen_as}
use Rattle.afs_volume.specs.Taking.{stored_of}
use Rattle.afs_volstore.specs.Laying.{AreLaid, HaveShortNames}
use Rattle.afs_memory.specs.Numbered.{AreNumbered}
use Rattle.afs_setup.proofs.laying.volumes_laid.Given as goal

abbrev pub invariant-loop-line : goal.invariant-loop-line
invariant-loop-line l = record {
  laid : volumes_laid (map (λ l. l.now) (drop l.line-index l.lines)) (seen_as stored_of l.volumes.table) ≡ volumes_laid (map (λ l. l.now) l.lines) [];
  names : HaveShortNames (map (λ l. l.now) (drop l.line-index l.lines));
  as_set_up : AreLaid l.volumes.table;
  numbered : AreNumbered l.volumes.table;
  few : length l.volumes.table ≤ l.line-index;
}
