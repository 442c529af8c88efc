use Rattle.afs_grammar.proofs.FirstBad.{last_line}
use Rattle.afs_grammar.proofs.laws.last_line_decides.Goals as goal

pub returns : goal.returns
returns c = last_line
