use Rattle.afs_sendings.proofs.Ways.{to_put}
use Rattle.afs_sendings.proofs.pieces.Pieces.start_first.Goals as goal

pub returns-clause-to : goal.returns-clause-to
returns-clause-to c all = to_put c.args.node _ _ _ c.in_ok-set_call.ensures.calls all c.requires.callee
