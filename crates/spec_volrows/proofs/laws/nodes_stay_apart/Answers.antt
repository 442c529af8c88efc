use Rattle.spec_volrows.proofs.VolNodes.{nodes_stay_apart}
use Rattle.spec_volrows.proofs.laws.nodes_stay_apart.Goals as goal

pub returns : goal.returns
returns c = nodes_stay_apart
