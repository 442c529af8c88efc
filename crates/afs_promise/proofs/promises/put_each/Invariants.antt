use Rattle.std.proofs.Common.{◌≡◌, ◌≤◌, ◌+◌, drop, length}
use Rattle.spec_breaks.specs.Promises.{with_promises}
use Rattle.afs_promise.proofs.promises.put_each.Given as goal

abbrev pub invariant-loop-fid : goal.invariant-loop-fid
invariant-loop-fid l = record {
  rest : with_promises l.client l.expiry (drop l.fid-index l.fids) l.grants.promises ≡ with_promises l.client l.expiry l.fids l.fn.grants.promises;
  room : l.fn.grants.room ≤ l.grants.room + l.fid-index;
  grows : length l.grants.promises ≤ length l.fn.grants.promises + l.fid-index;
}
