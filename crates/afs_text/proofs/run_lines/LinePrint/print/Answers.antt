use Rattle.afs_text.specs.RunText.{line_text}
use Rattle.afs_text.proofs.Laid.{lays_put, lays_put_stop}
use Rattle.afs_text.proofs.run_lines.LinePrint.print.Goals as goal

pub returns-in_err-lay_line : goal.returns-in_err-lay_line
returns-in_err-lay_line g c = lays_put_stop (line_text c.args.self.now) c.new-piece.result _ _ _ _ _ _ c.new-piece.ensures c.from_residual.ensures.0 c.in_err-lay_line.ensures

pub returns : goal.returns
returns g c = lays_put (line_text c.args.self.now) c.new-piece.result c.lay_line.new.piece _ _ _ _ _ _ _ _ _ c.new-piece.ensures c.as_slice.ensures.value c.in_ok-lay_line.ensures c.put_bytes.ensures
