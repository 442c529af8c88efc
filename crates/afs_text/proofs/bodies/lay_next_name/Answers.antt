use Rattle.std.proofs.Common.{codes}
use Rattle.spec_model.specs.LineText.{entry_name_text}
use Rattle.afs_text.proofs.Laid.{laid_nowhere, lays_stop, lays_then}
use Rattle.afs_text.proofs.bodies.lay_next_name.Goals as goal

pub returns-in_err-make_room : goal.returns-in_err-make_room
returns-in_err-make_room g c = laid_nowhere _ _ _ _ _ _ _ _ _ c.from_residual.ensures.0 c.in_err-make_room.ensures.laid

pub returns-in_err-lay_short : goal.returns-in_err-lay_short
returns-in_err-lay_short g c = lays_stop (codes ",") (entry_name_text c.args.name.now) c.args.piece.now _ _ _ _ _ _ _ c.from_residual-in_err-lay_short.ensures.0 c.in_err-lay_short.ensures

pub returns : goal.returns
returns g c = lays_then (codes ",") (entry_name_text c.args.name.now) c.args.piece.now _ _ _ _ _ _ _ _ _ _ c.in_ok-lay_short.ensures c.lay_name.ensures
