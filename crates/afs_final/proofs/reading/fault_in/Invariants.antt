use Rattle.std.proofs.Common.{◌≡◌, drop}
use Rattle.afs_final.specs.Reading.{fault_in}
use Rattle.afs_final.proofs.Faults.{with_wanting}
use Rattle.afs_final.proofs.reading.fault_in.Given as goal

abbrev pub invariant-loop-one : goal.invariant-loop-one
invariant-loop-one g l = with_wanting l.is_wanting (fault_in (drop l.one-index l.left)) ≡ fault_in l.fn.left
