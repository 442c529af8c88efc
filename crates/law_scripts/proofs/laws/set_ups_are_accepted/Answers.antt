use Rattle.law_scripts.proofs.SetUps.{set_ups_are_accepted}
use Rattle.law_scripts.proofs.laws.set_ups_are_accepted.Goals as goal

pub returns : goal.returns
returns c = set_ups_are_accepted
