use Rattle.afs_text.proofs.Laid.{laid_at_once, laid_stop}
use Rattle.afs_text.proofs.pieces.lay_long.Goals as goal

pub returns-in_err-put_piece : goal.returns-in_err-put_piece
returns-in_err-put_piece g c = laid_stop _ _ _ _ _ _ _ _ _ c.from_residual.ensures.0 c.in_err-put_piece.ensures.put

pub returns : goal.returns
returns g c = laid_at_once _ _ _ _ _ _ _ _ _ _ _ c.in_ok-put_piece.ensures.empty c.in_ok-put_piece.ensures.put c.print.ensures
