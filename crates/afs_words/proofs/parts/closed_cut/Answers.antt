use Rattle.afs_words.proofs.FirstPart.{some_part}
use Rattle.afs_words.proofs.parts.closed_cut.Goals as goal

pub returns-clause-more : goal.returns-clause-more
returns-clause-more c = some_part c.args.cut c.in_ok-more.more.now
