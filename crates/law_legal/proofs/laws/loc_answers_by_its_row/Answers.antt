use Rattle.law_legal.proofs.DatabaseAnswers.{run_rows}
use Rattle.law_legal.proofs.laws.loc_answers_by_its_row.Goals as goal

pub returns : goal.returns
returns c = run_rows
