use Rattle.law_keys.proofs.Answering.{were_run}
use Rattle.law_keys.proofs.laws.replies_were_run.Goals as goal

pub returns : goal.returns
returns c = were_run
