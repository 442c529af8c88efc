use Rattle.std.proofs.Common.{◌≡◌, ◌+◌, ◌++◌, drop}
use Rattle.spec_breaks.specs.Promises.{owes_from}
use Rattle.afs_callbacks.proofs.saving.owe_each.Given as goal

abbrev pub invariant-loop-promise : goal.invariant-loop-promise
invariant-loop-promise l = record {
  owed : l.owed.items ++ owes_from l.number (drop l.promise-index l.withdrawn) ≡ l.fn.owed.items ++ owes_from l.last l.withdrawn;
  number : l.number ≡ l.last + l.promise-index;
}
