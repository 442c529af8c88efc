use Rattle.law_answers.proofs.Walk.{have_causes}
use Rattle.law_answers.proofs.laws.answers_have_causes.Goals as goal

pub returns : goal.returns
returns c = have_causes
