use Rattle.std.proofs.Common.{arith}
use Rattle.afs_promise.proofs.Lists.{next_granted, next_long}
use Rattle.afs_promise.proofs.promises.put_each.Goals as goal

pub loop-fid-preserved : goal.loop-fid-preserved
loop-fid-preserved c = record {
  rest = next_granted c.args.client c.args.expiry c.loop-fid.fid-index c.args.fids.now _ _ _ _ c.loop-fid-test.true c.in_ok-put.ensures.promises c.loop-fid.invariant.rest;
  room = omega (arith, c.loop-fid.invariant.room, c.in_ok-put.ensures.room);
  grows = omega (arith, c.loop-fid.invariant.grows, next_long c.args.client c.args.expiry _ _ _ c.in_ok-put.ensures.promises);
}
