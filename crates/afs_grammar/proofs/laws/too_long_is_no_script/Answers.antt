use Rattle.afs_grammar.proofs.TooLong.{too_long_is_none}
use Rattle.afs_grammar.proofs.laws.too_long_is_no_script.Goals as goal

pub returns : goal.returns
returns c = too_long_is_none
