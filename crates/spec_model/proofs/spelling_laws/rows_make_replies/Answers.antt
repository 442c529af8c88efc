use Rattle.spec_model.proofs.Spellings.{rows_make_replies}
use Rattle.spec_model.proofs.spelling_laws.rows_make_replies.Goals as goal

pub returns : goal.returns
returns c = rows_make_replies
