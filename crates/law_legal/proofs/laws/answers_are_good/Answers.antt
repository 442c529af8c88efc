use Rattle.law_legal.proofs.ActAnswersCaused.{run_codes}
use Rattle.law_legal.proofs.laws.answers_are_good.Goals as goal

pub returns : goal.returns
returns c = run_codes
