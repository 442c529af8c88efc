use Rattle.law_keys.proofs.Sending.{ran_sent}
use Rattle.law_keys.proofs.laws.ran_were_sent.Goals as goal

pub returns : goal.returns
returns c = ran_sent
