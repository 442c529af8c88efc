use Rattle.std.proofs.Common.{codes}
use Rattle.spec_model.specs.LineText.{directory_text}
use Rattle.afs_text.proofs.Laid.{lays_stop, lays_then}
use Rattle.afs_text.proofs.bodies.lay_directory.Goals as goal

pub returns-in_err-lay_short : goal.returns-in_err-lay_short
returns-in_err-lay_short g c = lays_stop (codes "d:") (directory_text c.args.names.now) c.args.piece.now _ _ _ _ _ _ _ c.from_residual.ensures.0 c.in_err-lay_short.ensures

pub returns : goal.returns
returns g c = lays_then (codes "d:") (directory_text c.args.names.now) c.args.piece.now _ _ _ _ _ _ _ _ _ _ c.in_ok-lay_short.ensures c.lay_all_names.ensures
