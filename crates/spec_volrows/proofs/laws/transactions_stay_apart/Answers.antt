use Rattle.spec_volrows.proofs.VolApart.{transactions_stay_apart}
use Rattle.spec_volrows.proofs.laws.transactions_stay_apart.Goals as goal

pub returns : goal.returns
returns c = transactions_stay_apart
