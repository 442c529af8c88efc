use Rattle.law_new_volumes.proofs.GivenOnce.{given_once}
use Rattle.law_new_volumes.proofs.laws.numbers_are_given_once.Goals as goal

pub returns : goal.returns
returns c = given_once
