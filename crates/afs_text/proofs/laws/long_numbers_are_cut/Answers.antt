use Rattle.afs_text.proofs.MessagesRead.{long_numbers_are_cut}
use Rattle.afs_text.proofs.laws.long_numbers_are_cut.Goals as goal

pub returns : goal.returns
returns c = long_numbers_are_cut
