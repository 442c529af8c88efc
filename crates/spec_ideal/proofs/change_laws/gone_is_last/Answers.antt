use Rattle.spec_ideal.specs.Volumes.{versions_by}
use Rattle.spec_ideal.proofs.Edits as edits
use Rattle.spec_ideal.proofs.change_laws.gone_is_last.Goals as goal

pub returns : goal.returns
returns c = λ id es v told f last h e gone. edits.gone_is_last id (versions_by id es v) told f last (edits.edits_told id es v told h).next e gone
