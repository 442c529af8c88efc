use Rattle.afs_sendings.proofs.Ways.{to_put}
use Rattle.afs_sendings.proofs.pieces.Pieces.add.Goals as goal

pub returns-in_ok-set_call-in-Some-clause-to : goal.returns-in_ok-set_call-in-Some-clause-to
returns-in_ok-set_call-in-Some-clause-to c all = to_put c.args.node _ _ _ c.in_ok-set_call-in-Some.ensures.calls all c.requires.callee
