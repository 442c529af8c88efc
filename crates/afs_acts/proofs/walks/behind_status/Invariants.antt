use Rattle.std.proofs.Common.{◌≡◌, length}
use Rattle.spec_rows.specs.Going.{first_status}
use Rattle.afs_acts.proofs.walks.behind_status.Given as goal

abbrev pub invariant-loop-shown : goal.invariant-loop-shown
invariant-loop-shown l = first_status l.fid l.rest ≡ first_status l.fid l.reads

abbrev pub decreases-loop-shown : goal.decreases-loop-shown
decreases-loop-shown l = length l.rest
