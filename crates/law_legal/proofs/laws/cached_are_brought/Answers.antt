use Rattle.law_legal.proofs.KeptCameInRuns.{run_brought}
use Rattle.law_legal.proofs.laws.cached_are_brought.Goals as goal

pub returns : goal.returns
returns c = run_brought
