use Rattle.law_recovered.proofs.Recovered.{recovered_alone}
use Rattle.law_recovered.proofs.laws.recoveries_are_told.Goals as goal

pub returns : goal.returns
returns c = recovered_alone
