use Rattle.spec_ideal.proofs.Proper.{operations_change}
use Rattle.spec_ideal.proofs.change_laws.operations_are_changes.Goals as goal

pub returns : goal.returns
returns c = λ id caller call v es n h on e. (operations_change id caller call v es n h on e).is
