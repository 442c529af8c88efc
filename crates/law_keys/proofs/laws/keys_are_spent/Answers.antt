use Rattle.law_keys.proofs.Walk.{are_spent}
use Rattle.law_keys.proofs.laws.keys_are_spent.Goals as goal

pub returns : goal.returns
returns c = are_spent
