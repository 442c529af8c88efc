use Rattle.spec_ideal.proofs.Scopes.{stays_in_scope}
use Rattle.spec_ideal.proofs.change_laws.changes_stay_in_scope.Goals as goal

pub returns : goal.returns
returns c = stays_in_scope
