use Rattle.std.proofs.Common.{◌≡◌, length}
use Rattle.afs_acts.specs.Walks.{walk_to}
use Rattle.afs_acts.specs.Needs.{at_of}
use Rattle.afs_acts.proofs.walks.walk.Given as goal

abbrev pub invariant-loop-name : goal.invariant-loop-name
invariant-loop-name l = walk_to l.inner l.rest (at_of l.at) ≡ walk_to l.inner l.names (at_of l.start)

abbrev pub decreases-loop-name : goal.decreases-loop-name
decreases-loop-name l = length l.rest
