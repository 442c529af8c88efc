use Rattle.law_legal.proofs.ActIsDue.{run_due}
use Rattle.law_legal.proofs.laws.answers_are_due.Goals as goal

pub returns : goal.returns
returns c = run_due
