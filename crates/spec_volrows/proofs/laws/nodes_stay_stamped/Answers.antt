use Rattle.spec_volrows.proofs.VolNodes.{nodes_stay_stamped}
use Rattle.spec_volrows.proofs.laws.nodes_stay_stamped.Goals as goal

pub returns : goal.returns
returns c = nodes_stay_stamped
