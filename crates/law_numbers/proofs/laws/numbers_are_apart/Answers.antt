use Rattle.law_numbers.proofs.Walk.{are_apart}
use Rattle.law_numbers.proofs.laws.numbers_are_apart.Goals as goal

pub returns : goal.returns
returns c = are_apart
