use Rattle.afs_text.proofs.RowsRead.{texts_tell_entries}
use Rattle.afs_text.proofs.laws.texts_tell_entries.Goals as goal

pub returns : goal.returns
returns c = texts_tell_entries
