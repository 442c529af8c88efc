use Rattle.std.proofs.Common.{◌≡◌}
use Rattle.afs_asking.proofs.Telling.{none_spent, one_spent}
use Rattle.afs_asking.proofs.replies.is_any_spent.Goals as goal

pub returns-then-not-is_trusted : goal.returns-then-not-is_trusted
returns-then-not-is_trusted c =
    one_spent c.args.now c.args.all.now c.loop-fresh.fresh-index c.fresh-item.result c.is_trusted.result c.loop-fresh-test.true c.fresh-item.is (c.is_trusted.ensures c.fresh-item.result.fid) c.if-not-is_trusted.true c.loop-fresh.invariant

pub loop-fresh-preserved : goal.loop-fresh-preserved
loop-fresh-preserved c =
    none_spent c.args.now c.args.all.now c.loop-fresh.fresh-index c.fresh-item.result c.is_trusted.result c.loop-fresh-test.true c.fresh-item.is (c.is_trusted.ensures c.fresh-item.result.fid) c.if-not-is_trusted.false c.loop-fresh.invariant
