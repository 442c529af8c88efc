use Rattle.afs_grammar.proofs.Sizes.{first_record}
use Rattle.afs_grammar.proofs.laws.first_record_is_the_sum.Goals as goal

pub returns : goal.returns
returns c = first_record
