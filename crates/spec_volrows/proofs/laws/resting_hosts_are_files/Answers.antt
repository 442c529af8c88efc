use Rattle.spec_volrows.proofs.HostResting.{hosts_rest}
use Rattle.spec_volrows.proofs.laws.resting_hosts_are_files.Goals as goal

pub returns : goal.returns
returns c = hosts_rest
