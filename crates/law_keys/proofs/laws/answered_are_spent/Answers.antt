use Rattle.law_keys.proofs.Answering.{answered_spent}
use Rattle.law_keys.proofs.laws.answered_are_spent.Goals as goal

pub returns : goal.returns
returns c = answered_spent
