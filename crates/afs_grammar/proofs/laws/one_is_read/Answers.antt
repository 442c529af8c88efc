use Rattle.afs_grammar.proofs.Worked.{one_is_read}
use Rattle.afs_grammar.proofs.laws.one_is_read.Goals as goal

pub returns : goal.returns
returns c = one_is_read
