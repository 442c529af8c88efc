use Rattle.law_once.proofs.OnceTold.{changes_once}
use Rattle.law_once.proofs.laws.changes_are_once.Goals as goal

pub returns : goal.returns
returns c = changes_once
