use Rattle.spec_copyrows.proofs.PlainCopies.{copies_plain}
use Rattle.spec_copyrows.proofs.laws.copies_are_plain.Goals as goal

pub returns : goal.returns
returns c = copies_plain
