use Rattle.law_keys.proofs.Walk.{in_order}
use Rattle.law_keys.proofs.laws.calls_run_in_order.Goals as goal

pub returns : goal.returns
returns c = in_order
