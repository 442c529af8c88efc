use Rattle.std.proofs.Common.{◌≡◌, ◌+◌, ◌++◌, drop}
use Rattle.spec_breaks.specs.Promises.{owes_from}
use Rattle.afs_promise.specs.Found.{without_found}
use Rattle.afs_promise.proofs.promises.take_found.Given as goal

abbrev pub invariant-loop-promise : goal.invariant-loop-promise
invariant-loop-promise l = record {
  promises : without_found (drop l.promise-index l.found) l.grants.promises ≡ without_found l.found l.fn.grants.promises;
  breaks : l.owed.breaks ++ owes_from l.owed.last (drop l.promise-index l.found) ≡ l.fn.owed.breaks ++ owes_from l.fn.owed.last l.found;
  last : l.owed.last ≡ l.fn.owed.last + l.promise-index;
  room : l.owed.room + l.promise-index ≡ l.fn.owed.room;
}
