use Rattle.law_scripts.proofs.Listing.{loc_set_ups_are_accepted}
use Rattle.law_scripts.proofs.laws.loc_set_ups_are_accepted.Goals as goal

pub returns : goal.returns
returns c = loc_set_ups_are_accepted
