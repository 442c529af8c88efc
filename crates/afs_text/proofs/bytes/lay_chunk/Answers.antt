use Rattle.afs_text.proofs.Laid.{laid_behind, laid_nowhere}
use Rattle.afs_text.proofs.bytes.lay_chunk.Goals as goal

pub returns-in_err-make_room : goal.returns-in_err-make_room
returns-in_err-make_room g c = laid_nowhere _ _ _ _ _ _ _ _ _ c.from_residual.ensures.0 c.in_err-make_room.ensures.laid

pub returns : goal.returns
returns g c = laid_behind _ _ _ _ _ _ _ _ _ _ c.in_ok-make_room.ensures.laid c.lay.ensures
