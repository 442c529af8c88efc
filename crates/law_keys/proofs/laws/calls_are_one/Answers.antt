use Rattle.law_keys.proofs.Asking.{calls_one}
use Rattle.law_keys.proofs.laws.calls_are_one.Goals as goal

pub returns : goal.returns
returns c = calls_one
