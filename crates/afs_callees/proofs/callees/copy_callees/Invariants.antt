use Rattle.std.proofs.Common.{◌≡◌, take}
use Rattle.afs_callees.proofs.callees.copy_callees.Given as goal

abbrev pub invariant-loop-one : goal.invariant-loop-one
invariant-loop-one g l = l.copies.items ≡ take l.one-index l.callees
