use Rattle.spec_dumps.proofs.Restoring.{copies_hold}
use Rattle.spec_dumps.proofs.laws.copies_hold.Goals as goal

pub returns : goal.returns
returns c = copies_hold
