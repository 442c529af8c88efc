use Rattle.std.proofs.Common.{◌≡◌, ◌++◌}
use Rattle.afs_callbacks.proofs.restoring.all_breaks.Given as goal

abbrev pub invariant-loop-owed : goal.invariant-loop-owed
invariant-loop-owed l = l.breaks.items ++ l.owed-iterator ≡ l.promises.owed
