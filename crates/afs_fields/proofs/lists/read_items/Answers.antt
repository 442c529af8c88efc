use Rattle.std.proofs.Common.{◌∙◌}
use Rattle.std.proofs.lemmas.Result.{err_from_is_err_and}
use Rattle.spec_shape.specs.Items.{items_at}
use Rattle.spec_shape.proofs.Loops.{goes_on, ends}
use Rattle.afs_fields.proofs.lists.read_items.Goals as goal

pub returns-in_err-item-clause-value : goal.returns-in_err-item-clause-value
returns-in_err-item-clause-value g c =
    let p = err_from_is_err_and c.from_residual-in_err-item.result c.from_residual-in_err-item.ensures.1 in
    rw (p.1, p.2) (ends g.T.Item.item_at c.loop.items.items c.args.count c.loop.counter c.loop.r.left c.in_err-item.field-0.0 (items_at g.T.Item.item_at c.args.count c.args.r.now.left) c.loop-test.true c.in_err-item.ensures.value c.loop.invariant.all)

pub loop-preserved : goal.loop-preserved
loop-preserved g c =
    let e = goes_on g.T.Item.item_at c.loop.items.items c.args.count c.loop.counter c.loop.r.left c.in_ok-item.item c.read.new.r.left (items_at g.T.Item.item_at c.args.count c.args.r.now.left) c.loop-test.true c.in_ok-item.ensures.value c.loop.invariant.all in
    record {
      all = rw c.in_ok-push.ensures.items e;
      end = c.loop.invariant.end ∙ c.in_ok-item.ensures.end;
    }
