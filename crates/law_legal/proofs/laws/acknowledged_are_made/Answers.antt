use Rattle.law_legal.proofs.ActIsMade.{acknowledged}
use Rattle.law_legal.proofs.laws.acknowledged_are_made.Goals as goal

pub returns : goal.returns
returns c = acknowledged
