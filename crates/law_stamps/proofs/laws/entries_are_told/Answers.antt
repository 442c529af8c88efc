use Rattle.law_stamps.proofs.ToldWalk.{entries_are_told}
use Rattle.law_stamps.proofs.laws.entries_are_told.Goals as goal

pub returns : goal.returns
returns c = entries_are_told
