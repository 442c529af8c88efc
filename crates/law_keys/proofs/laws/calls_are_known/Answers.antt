use Rattle.law_keys.proofs.Asking.{calls_known}
use Rattle.law_keys.proofs.laws.calls_are_known.Goals as goal

pub returns : goal.returns
returns c = calls_known
