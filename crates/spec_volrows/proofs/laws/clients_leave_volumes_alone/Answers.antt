use Rattle.spec_volrows.proofs.VolResting.{clients_leave}
use Rattle.spec_volrows.proofs.laws.clients_leave_volumes_alone.Goals as goal

pub returns : goal.returns
returns c = clients_leave
