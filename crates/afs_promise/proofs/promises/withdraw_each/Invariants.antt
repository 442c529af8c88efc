use Rattle.std.proofs.Common.{◌≡◌, ◌≤◌, ◌+◌, ◌++◌, length}
use Rattle.spec_breaks.specs.Promises.{owes_from, hits, left}
use Rattle.afs_promise.proofs.promises.withdraw_each.Given as goal

abbrev pub invariant-loop-promise : goal.invariant-loop-promise
invariant-loop-promise l = record {
  breaks : l.owed.breaks ++ owes_from l.owed.last (hits l.except l.fid l.grants.promises) ≡ l.fn.owed.breaks ++ owes_from l.fn.owed.last (hits l.except l.fid l.fn.grants.promises);
  last : l.owed.last + length (hits l.except l.fid l.grants.promises) ≡ l.fn.owed.last + length (hits l.except l.fid l.fn.grants.promises);
  left : left l.except l.fid l.grants.promises ≡ left l.except l.fid l.fn.grants.promises;
  room : length l.grants.promises ≤ l.owed.room;
  number : l.owed.last + length l.grants.promises ≤ 4000000000;
  fewer : length l.grants.promises ≤ length l.fn.grants.promises;
}

abbrev pub decreases-loop-promise : goal.decreases-loop-promise
decreases-loop-promise l = length l.grants.promises
