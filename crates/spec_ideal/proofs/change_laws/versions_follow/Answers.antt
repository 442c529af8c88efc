use Rattle.spec_ideal.proofs.Edits.{edits_told}
use Rattle.spec_ideal.proofs.change_laws.versions_follow.Goals as goal

pub returns : goal.returns
returns c = λ id es v told h. (edits_told id es v told h).next
