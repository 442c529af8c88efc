use Rattle.afs_summary.proofs.Counted.{entries_counted}
use Rattle.afs_summary.proofs.laws.entries_are_counted.Goals as goal

pub returns : goal.returns
returns c = entries_counted
