use Rattle.spec_ideal.specs.Volumes.{edited_all, counted}
use Rattle.spec_fold.proofs.Kept.{change_kept}
use Rattle.spec_records.proofs.Tested.{passes}
use Rattle.spec_fold.proofs.laws.changes_are_kept.Goals as goal

pub returns : goal.returns
returns c = λ head id time es s d there can. change_kept head id time es s d there can (passes (counted (edited_all id es s.volume)) can.sound)
