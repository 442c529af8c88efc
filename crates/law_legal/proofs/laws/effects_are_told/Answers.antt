use Rattle.law_legal.proofs.ServerDiskKeeps.{effect_told}
use Rattle.law_legal.proofs.laws.effects_are_told.Goals as goal

pub returns : goal.returns
returns c = effect_told
