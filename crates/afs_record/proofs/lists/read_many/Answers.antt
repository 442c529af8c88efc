use Rattle.afs_record.proofs.Loops.{goes_on}
use Rattle.spec_records.specs.Forms.{many_at}
use Rattle.afs_record.proofs.lists.read_many.Goals as goal

pub loop-preserved : goal.loop-preserved
loop-preserved g c = record {
  all = rw c.in_ok-push.ensures.ok (goes_on g.F.Form.form.at c.loop.items c.args.count c.loop.counter c.loop.r.left c.in_ok-item.item c.read.new.r.left (many_at g.F.Form.form.at c.args.count c.args.r.now.left) c.loop-test.true c.in_ok-item.ensures c.loop.invariant.all);
}
