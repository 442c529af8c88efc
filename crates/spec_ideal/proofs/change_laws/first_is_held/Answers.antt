use Rattle.spec_ideal.proofs.Edits.{first_agrees}
use Rattle.spec_ideal.proofs.change_laws.first_is_held.Goals as goal

pub returns : goal.returns
returns c = first_agrees
