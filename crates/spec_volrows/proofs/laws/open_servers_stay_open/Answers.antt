use Rattle.spec_volrows.proofs.FileOpen.{open_stay}
use Rattle.spec_volrows.proofs.laws.open_servers_stay_open.Goals as goal

pub returns : goal.returns
returns c = open_stay
