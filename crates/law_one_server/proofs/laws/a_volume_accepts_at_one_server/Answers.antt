use Rattle.law_one_server.proofs.AcceptsInRuns.{closed}
use Rattle.law_one_server.proofs.AcceptsAtOne.{accepts_at_one}
use Rattle.law_one_server.proofs.laws.a_volume_accepts_at_one_server.Goals as goal

pub returns : goal.returns
returns c = accepts_at_one closed
