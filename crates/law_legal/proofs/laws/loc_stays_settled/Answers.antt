use Rattle.law_legal.proofs.DatabaseRunsOnce.{stays_settled}
use Rattle.law_legal.proofs.laws.loc_stays_settled.Goals as goal

pub returns : goal.returns
returns c = stays_settled
