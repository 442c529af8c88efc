use Rattle.law_families.proofs.Walk.{are_of_families}
use Rattle.law_families.proofs.laws.transactions_are_of_families.Goals as goal

pub returns : goal.returns
returns c = are_of_families
