use Rattle.spec_runs.proofs.Plain.{node_runs_end}
use Rattle.spec_runs.proofs.laws.node_runs_end_well.Goals as goal

pub returns : goal.returns
returns c = node_runs_end
