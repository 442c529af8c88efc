use Rattle.spec_dumps.proofs.Streams.{front_is_cut}
use Rattle.spec_dumps.proofs.laws.fronts_are_cut.Goals as goal

pub returns : goal.returns
returns c = front_is_cut
