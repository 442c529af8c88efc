use Rattle.law_fences.proofs.Fencing.{are_true}
use Rattle.law_fences.proofs.laws.claims_are_true.Goals as goal

pub returns : goal.returns
returns c = are_true
