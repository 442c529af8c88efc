use Rattle.spec_ideal.proofs.Proper.{operations_change}
use Rattle.spec_ideal.proofs.change_laws.changes_touch_their_own.Goals as goal

pub returns : goal.returns
returns c = λ id caller call v es n g h on e. (operations_change id caller call v es n h on e).own g
