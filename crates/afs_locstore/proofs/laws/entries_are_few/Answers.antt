use Rattle.afs_locstore.proofs.Few.{are_few}
use Rattle.afs_locstore.proofs.laws.entries_are_few.Goals as goal

pub returns : goal.returns
returns c = are_few
