use Rattle.spec_volrows.proofs.VolWaiting.{held_go_out}
use Rattle.spec_volrows.proofs.laws.held_go_out_last.Goals as goal

pub returns : goal.returns
returns c = held_go_out
