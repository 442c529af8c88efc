use Rattle.spec_dumps.proofs.Restoring.{full_needs_nothing}
use Rattle.spec_dumps.proofs.laws.full_dumps_need_nothing.Goals as goal

pub returns : goal.returns
returns c = full_needs_nothing
