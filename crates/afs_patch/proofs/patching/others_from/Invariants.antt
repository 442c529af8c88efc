use Rattle.std.proofs.Common.{◌≡◌, length}
use Rattle.afs_patch.specs.Patching.{others_named}
use Rattle.afs_patch.proofs.patching.others_from.Given as goal

abbrev pub invariant-loop-name : goal.invariant-loop-name
invariant-loop-name l = others_named l.touched l.rest ≡ others_named l.touched l.names

abbrev pub decreases-loop-name : goal.decreases-loop-name
decreases-loop-name l = length l.rest
