use Rattle.law_all.proofs.Lawful.{lawful}
use Rattle.law_all.proofs.laws.runs_are_lawful.Goals as goal

pub returns : goal.returns
returns c = lawful
