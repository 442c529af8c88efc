use Rattle.spec_runs.proofs.Plain.{plain_runs}
use Rattle.spec_runs.proofs.laws.plain_runs_are_file_runs.Goals as goal

pub returns : goal.returns
returns c = plain_runs
