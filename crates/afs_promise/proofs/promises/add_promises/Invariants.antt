use Rattle.std.proofs.Common.{◌≡◌, ◌++◌, take}
use Rattle.afs_promise.specs.Granting.{promises_in}
use Rattle.afs_promise.proofs.promises.add_promises.Given as goal

abbrev pub invariant-loop-grant : goal.invariant-loop-grant
invariant-loop-grant l = l.out.items ≡ l.fn.out.items ++ promises_in (take l.grant-index l.grants)
