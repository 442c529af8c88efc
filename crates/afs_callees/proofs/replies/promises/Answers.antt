use Rattle.std.proofs.Common.{◌+◌, arith, rules}
use Rattle.spec_rows.specs.ServerRow.{promise_until}
use Rattle.afs_callees.proofs.Same.{one_more_same}
use Rattle.afs_callees.proofs.replies.promises.Goals as goal

pub loop-place-preserved : goal.loop-place-preserved
loop-place-preserved c =
    let more = one_more_same (promise_until c.args.expiry) c.loop-place._place-index (c.loop-place._place-index + 1) c.args.places.now (omega arith) c.loop-place-test.true in
    search (rules, more)
