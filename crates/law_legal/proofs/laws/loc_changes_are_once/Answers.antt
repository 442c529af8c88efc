use Rattle.law_legal.proofs.DatabaseRunsOnce.{changes_once}
use Rattle.law_legal.proofs.laws.loc_changes_are_once.Goals as goal

pub returns : goal.returns
returns c = changes_once
