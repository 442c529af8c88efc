use Rattle.law_legal.proofs.DatabaseSetUp.{loc_set_ups_first}
use Rattle.law_legal.proofs.laws.loc_set_ups_are_first.Goals as goal

pub returns : goal.returns
returns c = loc_set_ups_first
