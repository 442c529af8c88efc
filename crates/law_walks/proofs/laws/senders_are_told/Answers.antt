use Rattle.law_walks.proofs.Senders.{senders_are_told}
use Rattle.law_walks.proofs.laws.senders_are_told.Goals as goal

pub returns : goal.returns
returns c = senders_are_told
