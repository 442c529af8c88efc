use Rattle.law_legal.proofs.ClientTimeouts.{run_timed}
use Rattle.law_legal.proofs.laws.timeouts_are_good.Goals as goal

pub returns : goal.returns
returns c = run_timed
