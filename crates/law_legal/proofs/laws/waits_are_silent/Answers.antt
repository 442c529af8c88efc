use Rattle.law_legal.proofs.ClientWaits.{run_silent}
use Rattle.law_legal.proofs.laws.waits_are_silent.Goals as goal

pub returns : goal.returns
returns c = run_silent
