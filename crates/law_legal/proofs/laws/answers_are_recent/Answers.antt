use Rattle.law_legal.proofs.ActAnsweredRecently.{recent}
use Rattle.law_legal.proofs.laws.answers_are_recent.Goals as goal

pub returns : goal.returns
returns c = recent
