use Rattle.std.proofs.Common.{◌≡◌, take}
use Rattle.afs_acts.proofs.copies.copy_components.Given as goal

abbrev pub invariant-loop-name : goal.invariant-loop-name
invariant-loop-name l = l.copy ≡ take l.name-index l.names
