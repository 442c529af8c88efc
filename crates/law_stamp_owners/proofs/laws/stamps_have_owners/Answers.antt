use Rattle.law_stamp_owners.proofs.Walk.{have_owners}
use Rattle.law_stamp_owners.proofs.laws.stamps_have_owners.Goals as goal

pub returns : goal.returns
returns c = have_owners
