use Rattle.spec_model.proofs.Calls.{calls_once}
use Rattle.spec_model.proofs.call_laws.calls_run_once.Goals as goal

pub returns : goal.returns
returns c = calls_once
