use Rattle.law_legal.proofs.DatabaseRunsOnce.{boots_rise}
use Rattle.law_legal.proofs.laws.loc_boots_rise.Goals as goal

pub returns : goal.returns
returns c = boots_rise
