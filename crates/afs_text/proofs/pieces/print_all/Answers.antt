-- Each item goes on behind those before it.
use Rattle.std.specs.List.{flat_map}
use Rattle.afs_outside.proofs.Puts.{completes_more, completes_stop, completes_end, at_item, at_end}
use Rattle.afs_text.proofs.pieces.print_all.Goals as goal

pub loop-item-preserved : goal.loop-item-preserved
loop-item-preserved g c =
    completes_more _ _ _ _ _ _ _ _ _ _ (at_item (flat_map g.T.Print.text) _ _ _ _ _ _ _ _ _ c.loop-item-test.true c.item-item.is c.loop-item.invariant) c.in_ok-print.ensures

pub returns-in_err-print : goal.returns-in_err-print
returns-in_err-print g c =
    completes_stop _ _ _ _ _ _ _ _ _ _ _ (at_item (flat_map g.T.Print.text) _ _ _ _ _ _ _ _ _ c.loop-item-test.true c.item-item.is c.loop-item.invariant) c.from_residual.ensures.0 c.in_err-print.ensures

pub returns : goal.returns
returns g c = completes_end _ _ _ _ _ _ (at_end (flat_map g.T.Print.text) _ _ _ _ _ _ _ c.loop-item-test.false c.loop-item.invariant)
