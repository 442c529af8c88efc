use Rattle.spec_runs.proofs.Plain.{node_runs_legal}
use Rattle.spec_runs.proofs.laws.node_runs_are_legal.Goals as goal

pub returns : goal.returns
returns c = node_runs_legal
