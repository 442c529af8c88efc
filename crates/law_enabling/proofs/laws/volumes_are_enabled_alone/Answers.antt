use Rattle.law_one_server.proofs.AcceptsInRuns.{closed}
use Rattle.law_enabling.proofs.Alone.{enabled_alone}
use Rattle.law_enabling.proofs.laws.volumes_are_enabled_alone.Goals as goal

pub returns : goal.returns
returns c = enabled_alone closed
