use Rattle.spec_model.proofs.Spellings.{rows_make_calls}
use Rattle.spec_model.proofs.spelling_laws.rows_make_calls.Goals as goal

pub returns : goal.returns
returns c = rows_make_calls
