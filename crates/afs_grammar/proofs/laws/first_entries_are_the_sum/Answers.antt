use Rattle.afs_grammar.proofs.Entries.{first_entries}
use Rattle.afs_grammar.proofs.laws.first_entries_are_the_sum.Goals as goal

pub returns : goal.returns
returns c = first_entries
