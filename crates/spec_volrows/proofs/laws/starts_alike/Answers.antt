use Rattle.spec_volrows.proofs.FileServed.{starts_alike}
use Rattle.spec_volrows.proofs.laws.starts_alike.Goals as goal

pub returns : goal.returns
returns c = starts_alike
