use Rattle.afs_grammar.proofs.TooLong.{longer_as_front}
use Rattle.afs_grammar.proofs.laws.longer_is_as_its_front.Goals as goal

pub returns : goal.returns
returns c = longer_as_front
