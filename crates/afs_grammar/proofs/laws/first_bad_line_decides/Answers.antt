use Rattle.afs_grammar.proofs.FirstBad.{first_bad_line}
use Rattle.afs_grammar.proofs.laws.first_bad_line_decides.Goals as goal

pub returns : goal.returns
returns c = first_bad_line
