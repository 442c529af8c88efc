use Rattle.spec_volrows.proofs.VolStamps.{stamps_stand}
use Rattle.spec_volrows.proofs.laws.stamps_stand.Goals as goal

pub returns : goal.returns
returns c = stamps_stand
