use Rattle.std.proofs.Common.{◌≡◌, ◌+◌, ◌*◌, ◌++◌}
use Rattle.afs_generate.specs.Generated.{acts_from, acts_of}
use Rattle.afs_generate.proofs.generate.acts_of.Given as goal

abbrev pub invariant-loop-left : goal.invariant-loop-left
invariant-loop-left l = record { all : l.tasks ++ acts_from l.n l.left l.k l.x ≡ acts_of l.fn.n; few : l.k + l.left ≡ 10 * l.fn.n + 1 }

abbrev pub decreases-loop-left : goal.decreases-loop-left
decreases-loop-left l = l.left
