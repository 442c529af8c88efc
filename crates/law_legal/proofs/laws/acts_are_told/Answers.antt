use Rattle.law_legal.proofs.ActCallsInRuns.{run_acts}
use Rattle.law_legal.proofs.laws.acts_are_told.Goals as goal

pub returns : goal.returns
returns c = run_acts
