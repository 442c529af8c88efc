use Rattle.law_replies.proofs.Walk.{answers_heard}
use Rattle.law_replies.proofs.laws.runs_answer_their_calls.Goals as goal

pub returns : goal.returns
returns c = answers_heard
