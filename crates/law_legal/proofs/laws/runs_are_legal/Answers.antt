use Rattle.law_legal.proofs.RunsAreLegal.{run_legal}
use Rattle.law_legal.proofs.laws.runs_are_legal.Goals as goal

pub returns : goal.returns
returns c = run_legal
