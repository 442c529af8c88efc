use Rattle.law_legal.proofs.DatabaseCalls.{loc_start_folds}
use Rattle.law_legal.proofs.laws.loc_starts_are_folded.Goals as goal

pub returns : goal.returns
returns c = loc_start_folds
