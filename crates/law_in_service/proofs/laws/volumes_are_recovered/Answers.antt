use Rattle.law_in_service.proofs.Ending.{are_recovered}
use Rattle.law_in_service.proofs.laws.volumes_are_recovered.Goals as goal

pub returns : goal.returns
returns c = are_recovered
