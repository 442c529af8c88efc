use Rattle.law_legal.proofs.PromisesAreGood.{run_grants}
use Rattle.law_legal.proofs.laws.grants_are_good.Goals as goal

pub returns : goal.returns
returns c = run_grants
