use Rattle.std.proofs.Common.{◌≡◌, ◌++◌, length}
use Rattle.std.specs.List.{All}
use Rattle.spec_rows.specs.Runs.{locations_in}
use Rattle.afs_acts.specs.Acts.{HasServer}
use Rattle.afs_acts.proofs.known.locations.Given as goal

abbrev pub invariant-loop-volume : goal.invariant-loop-volume
invariant-loop-volume l = record {
  told : l.table.items ++ locations_in l.rest ≡ locations_in l.volumes;
  servers : All HasServer l.rest;
}

abbrev pub decreases-loop-volume : goal.decreases-loop-volume
decreases-loop-volume l = length l.rest
