use Rattle.spec_model.specs.LineText.{entry_name_text, more_names_text}
use Rattle.afs_text.proofs.Laid.{lays_stop, lays_then}
use Rattle.afs_text.proofs.bodies.lay_names.Goals as goal

pub returns-in_err-lay_name : goal.returns-in_err-lay_name
returns-in_err-lay_name g c = lays_stop (entry_name_text c.args.first.now) (more_names_text c.args.others.now) c.args.piece.now _ _ _ _ _ _ _ c.from_residual.ensures.0 c.in_err-lay_name.ensures

pub returns : goal.returns
returns g c = lays_then (entry_name_text c.args.first.now) (more_names_text c.args.others.now) c.args.piece.now _ _ _ _ _ _ _ _ _ _ c.in_ok-lay_name.ensures c.lay_more_names.ensures
