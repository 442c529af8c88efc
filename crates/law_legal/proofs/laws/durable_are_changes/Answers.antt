use Rattle.law_legal.proofs.CallKeysOnce.{durable_changes}
use Rattle.law_legal.proofs.laws.durable_are_changes.Goals as goal

pub returns : goal.returns
returns c = durable_changes
