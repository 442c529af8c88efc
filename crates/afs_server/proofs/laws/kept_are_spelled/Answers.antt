use Rattle.afs_server.proofs.Again.{kept_are_spelled}
use Rattle.afs_server.proofs.laws.kept_are_spelled.Goals as goal

pub returns : goal.returns
returns c = kept_are_spelled
