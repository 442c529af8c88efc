use Rattle.law_legal.proofs.ServerFirstDisk.{set_ups_first}
use Rattle.law_legal.proofs.laws.set_ups_are_first.Goals as goal

pub returns : goal.returns
returns c = set_ups_first
