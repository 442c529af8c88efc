use Rattle.afs_server.proofs.Again.{again}
use Rattle.afs_server.proofs.laws.kept_again.Goals as goal

pub returns : goal.returns
returns c = again
