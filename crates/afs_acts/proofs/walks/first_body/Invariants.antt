use Rattle.std.proofs.Common.{◌≡◌, length}
use Rattle.spec_rows.specs.Going.{first_body}
use Rattle.afs_acts.proofs.walks.first_body.Given as goal

abbrev pub invariant-loop-shown : goal.invariant-loop-shown
invariant-loop-shown l = first_body l.fid l.rest ≡ first_body l.fid l.reads

abbrev pub decreases-loop-shown : goal.decreases-loop-shown
decreases-loop-shown l = length l.rest
