use Rattle.spec_volrows.proofs.FileOpen.{open_plain}
use Rattle.spec_volrows.proofs.laws.open_servers_are_plain.Goals as goal

pub returns : goal.returns
returns c = open_plain
