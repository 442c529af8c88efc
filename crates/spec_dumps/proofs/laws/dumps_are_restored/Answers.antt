use Rattle.spec_dumps.proofs.Restoring.{restored_is}
use Rattle.spec_dumps.proofs.laws.dumps_are_restored.Goals as goal

pub returns : goal.returns
returns c = restored_is
