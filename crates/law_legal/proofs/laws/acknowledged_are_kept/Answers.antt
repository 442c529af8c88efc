use Rattle.law_legal.proofs.VolumesSurvive.{run_survives}
use Rattle.law_legal.proofs.laws.acknowledged_are_kept.Goals as goal

pub returns : goal.returns
returns c = run_survives
