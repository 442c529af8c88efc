use Rattle.std.proofs.Common.{◌≡◌, length}
use Rattle.spec_rows.specs.Going.{has_rights}
use Rattle.afs_acts.proofs.walks.has_rights.Given as goal

abbrev pub invariant-loop-shown : goal.invariant-loop-shown
invariant-loop-shown l = has_rights l.fid l.rest ≡ has_rights l.fid l.reads

abbrev pub decreases-loop-shown : goal.decreases-loop-shown
decreases-loop-shown l = length l.rest
