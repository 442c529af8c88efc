use Rattle.std.proofs.Common.{◌+◌, arith, rules}
use Rattle.spec_shape.specs.Rows.{no_callback}
use Rattle.afs_reads.proofs.Statuses.{one_more_same}
use Rattle.afs_reads.proofs.bulk.no_callbacks.Goals as goal

pub loop-fid-preserved : goal.loop-fid-preserved
loop-fid-preserved c =
    let more = one_more_same no_callback c.loop-fid._fid-index (c.loop-fid._fid-index + 1) c.args.fids.now (omega arith) c.loop-fid-test.true in
    search (rules, more)
