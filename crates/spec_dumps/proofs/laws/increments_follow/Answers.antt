use Rattle.spec_dumps.proofs.Restoring.{increments_follow}
use Rattle.spec_dumps.proofs.laws.increments_follow.Goals as goal

pub returns : goal.returns
returns c = increments_follow
