use Rattle.spec_fold.proofs.Grows.{one_more}
use Rattle.spec_fold.proofs.laws.one_more_stands.Goals as goal

pub returns : goal.returns
returns c = one_more
