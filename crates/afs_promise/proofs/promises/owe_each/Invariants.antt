use Rattle.std.proofs.Common.{◌≡◌, ◌+◌, ◌++◌, drop}
use Rattle.spec_breaks.specs.Promises.{owes_from}
use Rattle.afs_promise.specs.Granting.{promises_in}
use Rattle.afs_promise.proofs.promises.owe_each.Given as goal

abbrev pub invariant-loop-grant : goal.invariant-loop-grant
invariant-loop-grant l = record {
  breaks : l.owed.breaks ++ owes_from l.owed.last (promises_in (drop l.grant-index l.gone)) ≡ l.fn.owed.breaks ++ owes_from l.fn.owed.last (promises_in l.gone);
  last : l.owed.last ≡ l.fn.owed.last + l.grant-index;
  room : l.owed.room + l.grant-index ≡ l.fn.owed.room;
}
