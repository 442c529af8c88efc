use Rattle.law_legal.proofs.ClientCallsLegal.{run_claims}
use Rattle.law_legal.proofs.laws.calls_are_own.Goals as goal

pub returns : goal.returns
returns c = run_claims
