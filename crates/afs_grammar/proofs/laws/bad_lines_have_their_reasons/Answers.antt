use Rattle.afs_grammar.proofs.Worked.{bad_lines}
use Rattle.afs_grammar.proofs.laws.bad_lines_have_their_reasons.Goals as goal

pub returns : goal.returns
returns c = bad_lines
