use Rattle.spec_ideal.proofs.Edits as edits
use Rattle.spec_ideal.proofs.change_laws.new_is_unseen.Goals as goal

pub returns : goal.returns
returns c = edits.new_is_unseen
