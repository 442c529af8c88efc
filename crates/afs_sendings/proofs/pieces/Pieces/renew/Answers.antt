use Rattle.afs_sendings.proofs.Ways.{to_same}
use Rattle.afs_sendings.proofs.pieces.Pieces.renew.Goals as goal

pub returns-clause-to : goal.returns-clause-to
returns-clause-to c all = to_same _ _ c.in_ok-set_known.ensures.calls all
