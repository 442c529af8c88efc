use Rattle.law_recovered.proofs.Ending.{end_alone}
use Rattle.law_recovered.proofs.laws.recoveries_end_alone.Goals as goal

pub returns : goal.returns
returns c = end_alone
