use Rattle.law_once.proofs.Asking.{client_calls_one}
use Rattle.law_once.proofs.laws.client_calls_are_one.Goals as goal

pub returns : goal.returns
returns c = client_calls_one
