use Rattle.law_legal.proofs.ServerServes.{unserved}
use Rattle.law_legal.proofs.laws.unserved_are_refused.Goals as goal

pub returns : goal.returns
returns c = unserved
