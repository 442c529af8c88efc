-- Each goes on behind those before it.
use Rattle.std.specs.List.{flat_map}
use Rattle.afs_text.specs.RunText.{line_text, lines_text}
use Rattle.afs_text.proofs.Laid.{lays_end, lays_item, lays_itself, lays_last, lays_more, lays_no_more}
use Rattle.afs_text.proofs.histories.lay_lines.Goals as goal

pub loop-line-init : goal.loop-line-init
loop-line-init g c = lays_itself _ _ _ _

pub loop-line-preserved : goal.loop-line-preserved
loop-line-preserved g c =
    lays_more (line_text c.line-item.result) _ _ _ _ _ _ _ _ _ _ _ _ (lays_item (flat_map line_text) _ _ _ _ _ _ _ _ _ _ _ c.loop-line-test.true c.line-item.is c.loop-line.invariant) c.in_ok-lay_line.ensures

pub returns-in_err-lay_line : goal.returns-in_err-lay_line
unfolding lines_text
returns-in_err-lay_line g c =
    lays_no_more (line_text c.line-item.result) _ _ _ c.loop-line.piece _ _ _ _ _ _ _ _ _ (lays_item (flat_map line_text) _ _ _ _ _ _ _ _ _ _ _ c.loop-line-test.true c.line-item.is c.loop-line.invariant) c.from_residual.ensures.0 c.in_err-lay_line.ensures

pub returns : goal.returns
unfolding lines_text
returns g c = lays_end _ _ _ _ _ _ _ _ (lays_last (flat_map line_text) _ _ _ _ _ _ _ _ _ c.loop-line-test.false c.loop-line.invariant)
