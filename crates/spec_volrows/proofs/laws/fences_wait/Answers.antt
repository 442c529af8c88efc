use Rattle.spec_volrows.proofs.VolWaiting.{fences_wait}
use Rattle.spec_volrows.proofs.laws.fences_wait.Goals as goal

pub returns : goal.returns
returns c = fences_wait
