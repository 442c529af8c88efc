use Rattle.law_new_volumes.proofs.MadeOnce.{made_once}
use Rattle.law_new_volumes.proofs.laws.each_entry_is_made_once.Goals as goal

pub returns : goal.returns
returns c = made_once
