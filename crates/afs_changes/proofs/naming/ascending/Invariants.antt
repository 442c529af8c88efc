use Rattle.std.proofs.Common.{◌≡◌, length}
use Rattle.spec_ideal.specs.Volumes.{ascending}
use Rattle.afs_changes.specs.Planning.{edits_seen, placed_among}
use Rattle.afs_changes.proofs.naming.ascending.Given as goal

abbrev pub invariant-loop-edit : goal.invariant-loop-edit
invariant-loop-edit l = placed_among (edits_seen l.left.items) (edits_seen l.placed.items) ≡ ascending (edits_seen l.fn.edits)

abbrev pub decreases-loop-edit : goal.decreases-loop-edit
decreases-loop-edit l = length l.left.items
