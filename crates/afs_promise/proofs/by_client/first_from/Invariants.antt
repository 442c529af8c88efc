use Rattle.std.proofs.Common.{◌≡◌, None, drop}
use Rattle.afs_promise.specs.Gathered.{first_from}
use Rattle.afs_promise.proofs.by_client.first_from.Given as goal

abbrev pub invariant-loop-grant : goal.invariant-loop-grant
invariant-loop-grant l = first_from l.from l.best (drop l.grant-index l.found) ≡ first_from l.from None l.found
