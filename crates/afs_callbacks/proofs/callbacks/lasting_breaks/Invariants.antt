use Rattle.std.proofs.Common.{◌≡◌, ◌++◌}
use Rattle.spec_breaks.specs.Promises.{lasting_breaks}
use Rattle.afs_callbacks.proofs.callbacks.lasting_breaks.Given as goal

abbrev pub invariant-loop-owed : goal.invariant-loop-owed
invariant-loop-owed l = l.lasting.items ++ lasting_breaks l.now l.owed-iterator ≡ lasting_breaks l.now l.promises.owed
