use Rattle.spec_model.specs.LineText.{body_text}
use Rattle.afs_text.proofs.Laid.{lays_put, lays_put_stop}
use Rattle.afs_text.proofs.bodies.RefBodyPrint.print.Goals as goal

pub returns-in_err-lay_body : goal.returns-in_err-lay_body
returns-in_err-lay_body g c = lays_put_stop (body_text c.args.self.now.now) c.new-piece.result _ _ _ _ _ _ c.new-piece.ensures c.from_residual.ensures.0 c.in_err-lay_body.ensures

pub returns : goal.returns
returns g c = lays_put (body_text c.args.self.now.now) c.new-piece.result c.lay_body.new.piece _ _ _ _ _ _ _ _ _ c.new-piece.ensures c.as_slice.ensures.value c.in_ok-lay_body.ensures c.put_bytes.ensures
