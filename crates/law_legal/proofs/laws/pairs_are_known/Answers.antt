use Rattle.law_legal.proofs.ActCallsInRuns.{run_pairs}
use Rattle.law_legal.proofs.laws.pairs_are_known.Goals as goal

pub returns : goal.returns
returns c = run_pairs
