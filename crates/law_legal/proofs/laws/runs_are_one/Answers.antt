use Rattle.law_legal.proofs.RunsAreOne.{runs_one}
use Rattle.spec_rows.specs.Runs.{start}
use Rattle.law_legal.proofs.laws.runs_are_one.Goals as goal

pub returns : goal.returns
returns c = λ s inputs history other end last. runs_one inputs (start s) history other end last
