use Rattle.law_legal.proofs.KeptUntrusted.{run_dead}
use Rattle.law_legal.proofs.laws.dead_are_untrusted.Goals as goal

pub returns : goal.returns
returns c = run_dead
