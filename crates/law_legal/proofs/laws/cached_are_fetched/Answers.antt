use Rattle.law_legal.proofs.KeptRestsInRuns.{run_kept}
use Rattle.law_legal.proofs.laws.cached_are_fetched.Goals as goal

pub returns : goal.returns
returns c = run_kept
