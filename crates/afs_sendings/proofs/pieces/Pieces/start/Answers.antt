use Rattle.std.proofs.Common.{None}
use Rattle.afs_sendings.proofs.Ways.{to_put}
use Rattle.afs_sendings.proofs.pieces.Pieces.start.Goals as goal

pub returns-in_ok-end_call-in-None-clause-to : goal.returns-in_ok-end_call-in-None-clause-to
returns-in_ok-end_call-in-None-clause-to c all = to_put c.args.node None _ _ c.in_ok-end_call-in-None.ensures.calls all tt
