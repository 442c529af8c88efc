use Rattle.spec_runs.proofs.Plain.{plain_runs_bring}
use Rattle.spec_runs.proofs.laws.plain_runs_bring_nothing.Goals as goal

pub returns : goal.returns
returns c = plain_runs_bring
