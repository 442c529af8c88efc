use Rattle.law_in_service.proofs.Ending.{end_in_service}
use Rattle.law_in_service.proofs.laws.recoveries_end_in_service.Goals as goal

pub returns : goal.returns
returns c = end_in_service
