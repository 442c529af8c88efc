use Rattle.law_scripts.proofs.Scripts.{names_are_short}
use Rattle.law_scripts.proofs.laws.names_are_short.Goals as goal

pub returns : goal.returns
returns c = names_are_short
