use Rattle.spec_model.specs.LineText.{hex_text}
use Rattle.afs_text.proofs.Laid.{lays_put, lays_put_stop}
use Rattle.afs_text.proofs.bytes.HexPrint.print.Goals as goal

pub returns-in_err-lay_hex : goal.returns-in_err-lay_hex
returns-in_err-lay_hex g c = lays_put_stop (hex_text c.args.self.now.0.now) c.new-piece.result _ _ _ _ _ _ c.new-piece.ensures c.from_residual.ensures.0 c.in_err-lay_hex.ensures

pub returns : goal.returns
returns g c = lays_put (hex_text c.args.self.now.0.now) c.new-piece.result c.lay_hex.new.piece _ _ _ _ _ _ _ _ _ c.new-piece.ensures c.as_slice.ensures.value c.in_ok-lay_hex.ensures c.put_bytes.ensures
