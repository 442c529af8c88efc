use Rattle.law_legal.proofs.DatabaseCalls.{loc_folds}
use Rattle.law_legal.proofs.laws.loc_changes_are_folded.Goals as goal

pub returns : goal.returns
returns c = loc_folds
