use Rattle.spec_ideal.specs.Volumes.{edited_all}
use Rattle.spec_ideal.proofs.Edits.{edits_told, counted_sound}
use Rattle.spec_ideal.proofs.change_laws.told_is_held.Goals as goal

pub returns : goal.returns
returns c = λ id es v told h. counted_sound id (edited_all id es v) _ (edits_told id es v told h).agrees
