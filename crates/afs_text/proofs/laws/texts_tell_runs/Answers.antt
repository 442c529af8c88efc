use Rattle.afs_text.proofs.RowsRead.{texts_tell_runs}
use Rattle.afs_text.proofs.laws.texts_tell_runs.Goals as goal

pub returns : goal.returns
returns c = texts_tell_runs
