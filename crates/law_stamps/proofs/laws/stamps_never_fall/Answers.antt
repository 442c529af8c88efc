use Rattle.law_stamps.proofs.Walk.{never_fall}
use Rattle.law_stamps.proofs.laws.stamps_never_fall.Goals as goal

pub returns : goal.returns
returns c = never_fall
