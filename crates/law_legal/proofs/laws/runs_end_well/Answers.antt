use Rattle.law_legal.proofs.RunsEnd.{run_ends}
use Rattle.law_legal.proofs.laws.runs_end_well.Goals as goal

pub returns : goal.returns
returns c = run_ends
