use Rattle.law_legal.proofs.CallKeysOnce.{once}
use Rattle.law_legal.proofs.laws.keys_run_once.Goals as goal

pub returns : goal.returns
returns c = once
