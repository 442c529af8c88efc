use Rattle.spec_volrows.proofs.HostPlain.{hosts_plain}
use Rattle.spec_volrows.proofs.laws.open_hosts_are_plain.Goals as goal

pub returns : goal.returns
returns c = hosts_plain
