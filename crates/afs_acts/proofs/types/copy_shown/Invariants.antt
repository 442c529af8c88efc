use Rattle.std.proofs.Common.{◌≡◌, take}
use Rattle.afs_acts.proofs.types.copy_shown.Given as goal

abbrev pub invariant-loop-shown : goal.invariant-loop-shown
invariant-loop-shown l = l.copy.items ≡ take l.shown-index l.reads
