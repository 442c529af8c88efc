use Rattle.law_idle.proofs.Shut.{idle_ends}
use Rattle.law_idle.proofs.laws.idle_runs_end_well.Goals as goal

pub returns : goal.returns
returns c = idle_ends
