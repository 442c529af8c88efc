use Rattle.law_legal.proofs.ServerRemains.{run_falls}
use Rattle.law_legal.proofs.laws.falls_are_kept.Goals as goal

pub returns : goal.returns
returns c = run_falls
