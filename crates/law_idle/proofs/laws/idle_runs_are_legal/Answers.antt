use Rattle.law_idle.proofs.Shut.{idle_legal}
use Rattle.law_idle.proofs.laws.idle_runs_are_legal.Goals as goal

pub returns : goal.returns
returns c = idle_legal
