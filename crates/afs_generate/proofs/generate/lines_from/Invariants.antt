use Rattle.std.proofs.Common.{◌≡◌, ◌+◌, ◌*◌, ◌++◌}
use Rattle.afs_generate.specs.Generated.{lines_from}
use Rattle.afs_generate.proofs.generate.lines_from.Given as goal

abbrev pub invariant-loop-left : goal.invariant-loop-left
invariant-loop-left l = record { all : l.lines ++ lines_from l.left l.file ≡ lines_from l.fn.files l.fn.first; few : l.file + 3 * l.left ≡ l.fn.first + 3 * l.fn.files }

abbrev pub decreases-loop-left : goal.decreases-loop-left
decreases-loop-left l = l.left
