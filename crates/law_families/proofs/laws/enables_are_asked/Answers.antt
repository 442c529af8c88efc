use Rattle.law_families.proofs.Enabling.{are_asked}
use Rattle.law_families.proofs.laws.enables_are_asked.Goals as goal

pub returns : goal.returns
returns c = are_asked
