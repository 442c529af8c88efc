use Rattle.law_legal.proofs.VolumeChanges.{run_ideal}
use Rattle.law_legal.proofs.laws.changes_are_ideal.Goals as goal

pub returns : goal.returns
returns c = run_ideal
