use Rattle.law_keys.proofs.Sending.{replies_called}
use Rattle.law_keys.proofs.laws.replies_have_calls.Goals as goal

pub returns : goal.returns
returns c = replies_called
