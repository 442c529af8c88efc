use Rattle.spec_model.proofs.Spellings.{read_spelled}
use Rattle.spec_model.proofs.spelling_laws.read_are_spelled.Goals as goal

pub returns : goal.returns
returns c = read_spelled
