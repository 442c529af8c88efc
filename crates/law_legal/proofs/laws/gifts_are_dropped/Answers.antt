use Rattle.law_legal.proofs.ClientGifts.{run_gifts}
use Rattle.law_legal.proofs.laws.gifts_are_dropped.Goals as goal

pub returns : goal.returns
returns c = run_gifts
