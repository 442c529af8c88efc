use Rattle.law_stored_stamps.proofs.OldCalls.{past_vain}
use Rattle.law_stored_stamps.proofs.laws.past_calls_are_vain.Goals as goal

pub returns : goal.returns
returns c = past_vain
