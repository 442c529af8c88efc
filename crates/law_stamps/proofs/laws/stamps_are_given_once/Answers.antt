use Rattle.law_stamps.proofs.GivenWalk.{given_once}
use Rattle.law_stamps.proofs.laws.stamps_are_given_once.Goals as goal

pub returns : goal.returns
returns c = given_once
